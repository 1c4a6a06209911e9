-- `request_or_memory`
use Rattle.command_line.proofs.Answering.{only_memory}
use Rattle.command_line.proofs.laws.request_or_memory.Goals as goal

pub returns : goal.returns
returns c = only_memory
