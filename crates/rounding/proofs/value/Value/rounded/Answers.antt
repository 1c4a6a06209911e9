-- `Value::rounded`
use Rattle.rounding.proofs.Common.{sym, ◌∙◌, ℕ, Holds, arith, common_steps}
use Rattle.rounding.proofs.Deciding.{round_large, round_whole, round_fine}
use Rattle.rounding.proofs.value.Value.rounded.Goals as goal

pub returns-then-nearest-gt-MAX_PRICE : goal.returns-then-nearest-gt-MAX_PRICE
returns-then-nearest-gt-MAX_PRICE c = grind (arith, common_steps, round_large)

pub returns-then-is_whole : goal.returns-then-is_whole
returns-then-is_whole c = λ (n d : ℕ) (h : Holds c.args.self n d).
    round_whole n d c.nearest-nearest.result c.args.self.whole (c.nearest-nearest.ensures.near n d h)
    c.if-nearest-gt-MAX_PRICE.false h.whole (sym (c.is_whole.ensures n d h) ∙ c.if-is_whole.true)

pub returns-else-is_whole : goal.returns-else-is_whole
returns-else-is_whole c = λ (n d : ℕ) (h : Holds c.args.self n d). round_fine n d c.nearest-nearest.result (c.nearest-nearest.ensures.near n d h)
    c.if-nearest-gt-MAX_PRICE.false (sym (c.is_whole.ensures n d h) ∙ c.if-is_whole.false)
