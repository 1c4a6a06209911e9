-- `Value::exact`
use Rattle.rounding.proofs.Common.{sym, ◌∙◌, ℕ, Holds, arith, common_steps}
use Rattle.rounding.proofs.Deciding.{refuse_above, refuse_whole, refuse_fine}
use Rattle.rounding.proofs.value.Value.exact.Goals as goal

pub returns-then-is_above : goal.returns-then-is_above
returns-then-is_above c = λ (n d : ℕ) (h : Holds c.args.self n d). refuse_above n d (sym (c.is_above.ensures n d h) ∙ c.if-is_above.true)

pub returns-then-is_whole : goal.returns-then-is_whole
returns-then-is_whole c = grind (arith, common_steps, refuse_whole)

pub returns-else-is_whole : goal.returns-else-is_whole
returns-else-is_whole c = grind (arith, common_steps, refuse_fine)
