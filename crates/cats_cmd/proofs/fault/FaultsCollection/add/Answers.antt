-- `FaultsCollection::add`
use Rattle.cats_cmd.proofs.Common.{[], KeepsFaults, None}
use Rattle.cats_cmd.proofs.Judging.{stream_of_priced}
use Rattle.cats_cmd.proofs.Storing.{shows_nothing, wrote_nothing}
use Rattle.cats_cmd.proofs.fault.FaultsCollection.add.Goals as goal

pub returns-clause-adds : goal.returns-clause-adds
returns-clause-adds g c = record {
  stream = stream_of_priced KeepsFaults g.S.Stream.Read.remaining None c.args.path.now c.args.self.now c.add_file.new.self c.args.input.now
      c.add_file.new.input c.in_ok-fault.fault c.in_ok-fault.ensures;
  more = [];
  wrote = wrote_nothing _;
  shows = shows_nothing KeepsFaults c.args.path.now c.args.self.now c.in_ok-fault.ensures.judgement c.new-text.result.items c.new-text.ensures.items;
}
