-- `Value::is_above`
use Rattle.rounding.proofs.Common.{ℕ, Holds, arith, common_steps}
use Rattle.rounding.proofs.Deciding.{above_equal, above_other}
use Rattle.rounding.proofs.value.Value.is_above.Goals as goal

pub returns-then-self-eq-MAX_PRICE : goal.returns-then-self-eq-MAX_PRICE
returns-then-self-eq-MAX_PRICE c = grind (arith, common_steps, above_equal)

pub returns-else-self-eq-MAX_PRICE : goal.returns-else-self-eq-MAX_PRICE
returns-else-self-eq-MAX_PRICE c = λ (n d : ℕ) (h : Holds c.args.self n d). above_other n d c.args.self.whole h.bottom h.whole c.if-self-eq-MAX_PRICE.false
