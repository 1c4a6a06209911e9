-- `FilesInMemory::find`
use Rattle.program_tests.proofs.TextsInMemory.{tree_found}
use Rattle.program_tests.proofs.runs.memory.FilesInMemorySource.find.Goals as goal

pub returns : goal.returns
returns c =
    tree_found c.args.path.now c.push.new.self.items c.in_ok-file.file c.if-ne.ensures (rw c.new-files.ensures.items at c.in_ok-push.ensures.items)
    c.in_ok-file.ensures.items
