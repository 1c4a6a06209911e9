-- `push_first`
use Rattle.rounding.proofs.Common.{arith, common_steps, append_assoc}
use Rattle.rounding.proofs.Spans.{blanks_taken}
use Rattle.rounding.proofs.layout.push_first.Goals as goal

pub returns : goal.returns
returns c = grind (arith, common_steps, append_assoc, blanks_taken)
