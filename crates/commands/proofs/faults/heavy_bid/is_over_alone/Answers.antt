-- `is_over_alone`
use Rattle.commands.proofs.Common.{◌≡◌, ◌∙◌, pointwise, nat_eq}
use Rattle.commands.proofs.MetLimits.{found_again, none_again}
use Rattle.commands.proofs.faults.heavy_bid.is_over_alone.Goals as goal

pub returns-in-Ok : goal.returns-in-Ok
returns-in-Ok c e =
    none_again c.args.options.kind c.args.options.each _ _ c.args.goods.now c.args.options.total c.with_one_more.result c.with_one_more.ensures e
    c.in-Ok.ensures.answer.within_limit

pub returns-in-Err-StepLimit : goal.returns-in-Err-StepLimit
returns-in-Err-StepLimit c e =
    let found : pointwise nat_eq c.in-Err-StepLimit.found.items c.args.goods.now ≡ _ =
    found_again c.args.options.kind c.args.options.each _ _ c.args.goods.now c.args.options.total c.with_one_more.result c.with_one_more.ensures e _
    (rw c.in-Err-StepLimit.field-0-is at c.in-Err-StepLimit.ensures.answer) in
    c.eq.ensures ∙ rw c.as_slice.ensures.value found
