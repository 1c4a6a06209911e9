-- `GroupTable::heavy_group`
use Rattle.cats_cmd.proofs.GroupTables.{entry_at}
use Rattle.cats_cmd.proofs.duplicates.table.GroupTable.heavy_group.Goals as goal

pub returns-in-Some : goal.returns-in-Some
returns-in-Some c =
    rw c.in-Some.is (entry_at c.args.self.now.heavy.found.items c.in-Some.first c.get.result (rw c.deref.ensures.value at c.get.ensures.lookup))
