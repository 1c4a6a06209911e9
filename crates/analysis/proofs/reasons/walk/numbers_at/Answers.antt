-- `numbers_at`
use Rattle.analysis.proofs.Common.{◌∙◌, ap, arith, nat_cmp, nat_cmp-IsAntisymmetric, nat_cmp_total, take_all, numbers_at, sort_by, sorted_is_sort_by}
use Rattle.analysis.proofs.reasons.walk.numbers_at.Goals as goal

pub returns : goal.returns
returns c =
    sorted_is_sort_by nat_cmp nat_cmp_total nat_cmp-IsAntisymmetric _ _ c.sort_unstable.ensures.permutation c.sort_unstable.ensures.sorted
    ∙ ap (sort_by nat_cmp) (c.loop-index.invariant
    ∙ ap (numbers_at c.args.numbers.now) (take_all c.loop-index.index-index c.args.indices.now (omega (arith, c.loop-index-test.false))))
