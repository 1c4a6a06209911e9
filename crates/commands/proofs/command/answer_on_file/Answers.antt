-- `answer_on_file`
use Rattle.commands.proofs.command.answer_on_file.Goals as goal

pub returns-in-Value : goal.returns-in-Value
returns-in-Value g c = rw c.in-Value.is (rw c.as_slice.ensures.value at c.value.ensures)
