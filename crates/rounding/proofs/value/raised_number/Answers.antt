-- `raised_number`
use Rattle.rounding.proofs.Common.{◌≡◌, ◌*◌, suc, min, ap, ◌∙◌, arith, MAX_PRICE}
use Rattle.rounding.proofs.Worth.{raised_once}
use Rattle.rounding.proofs.value.raised_number.Goals as goal

pub loop-preserved : goal.loop-preserved
loop-preserved c =
    let product : c.saturating_mul.result ≡ c.loop.held * 10 = omega (arith, c.saturating_mul.ensures, c.loop.invariant) in
    c.min-held.ensures ∙ ap (min (suc MAX_PRICE)) product ∙ raised_once c.args.number c.loop.counter c.loop.held c.loop.invariant
