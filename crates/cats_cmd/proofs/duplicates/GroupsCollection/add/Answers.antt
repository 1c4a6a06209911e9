-- `GroupsCollection::add`
use Rattle.cats_cmd.proofs.Common.{[], KeepsGroups, Some}
use Rattle.cats_cmd.proofs.Judging.{stream_of_priced}
use Rattle.cats_cmd.proofs.Storing.{shows_nothing, wrote_nothing}
use Rattle.cats_cmd.proofs.duplicates.GroupsCollection.add.Goals as goal

pub returns-clause-adds : goal.returns-clause-adds
returns-clause-adds g c = record {
  stream = stream_of_priced KeepsGroups g.S.Stream.Read.remaining (Some c.args.many.options) c.args.path.now c.args.self.now
      c.add_file.new.self c.args.input.now
      c.add_file.new.input c.in_ok-fault.fault c.in_ok-fault.ensures;
  more = [];
  wrote = wrote_nothing _;
  shows = shows_nothing KeepsGroups c.args.path.now c.args.self.now c.in_ok-fault.ensures.judgement c.new-text.result.items c.new-text.ensures.items;
}
