-- `GroupTableCollection::add`
use Rattle.cats_cmd.proofs.GroupRows.{opened_row}
use Rattle.cats_cmd.proofs.Storing.{wrote_nothing}
use Rattle.cats_cmd.proofs.duplicates.table.GroupTableCollection.add.Goals as goal

pub returns-clause-adds : goal.returns-clause-adds
returns-clause-adds g c =
    opened_row c.args.many.ending g.S.Stream.Read.remaining c.args.many.options c.args.path.now c.args.self.now c.add_file.new.self c.args.input.now
    c.add_file.new.input _ (wrote_nothing _) c.add_file.result c.add_file.ensures
