-- `bundle_of`
use Rattle.commands.proofs.Common.{ℕ, List, [], ap, sym, ◌∙◌, fold_more, with_good}
use Rattle.commands.proofs.value.bundles.bundle_of.Goals as goal

pub loop-good-preserved : goal.loop-good-preserved
loop-good-preserved g c =
    c.in_ok-put.ensures.goods ∙ ap (with_good _) c.loop-good.invariant
    ∙ sym (fold_more (λ (bundle : List ℕ) (good : ℕ). with_good good bundle) [] c.args.goods.now c.loop-good.good-index 0 c.loop-good-test.true)
