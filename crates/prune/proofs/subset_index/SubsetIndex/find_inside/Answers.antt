-- `SubsetIndex::find_inside`
use Rattle.prune.proofs.Common.{sym, ap, ◌∙◌, ◌++◌, List, get_or, filter, Vec, atoms_of, lists_of, listed_at, indices_of, is_inside_at, Posting}
use Rattle.prune.proofs.ListedAtoms.{next_there, none_there, behind_next, postings_right, IsFinding-more, IsFinding-all}
use Rattle.prune.proofs.subset_index.SubsetIndex.find_inside.Goals as goal

pub find_inside_among-requires-clause-listed : goal.find_inside_among-requires-clause-listed
find_inside_among-requires-clause-listed g c =
    let there = c.postings_at-postings.ensures ∙ ap (λ (vs : List (Vec Posting)). listed_at (lists_of vs) (get_or c.args.goods.now c.loop-good.good-index 0))
    c.deref.ensures.value in
    postings_right _ _ _ _ c.requires.index there

pub loop-good-preserved : goal.loop-good-preserved
loop-good-preserved g c =
    let bundle = g.S.GoodsSet.goods c.args.bundle.now in
    let goods = c.args.goods.now in
    let i = c.loop-good.good-index in
    let rises = (g.met.S.GoodsSet.is_bundle c.args.bundle.now).0 in
    let there = c.postings_at-postings.ensures ∙ ap (λ (vs : List (Vec Posting)). listed_at (lists_of vs) (get_or goods i 0)) c.deref.ensures.value in
    let found = c.in_ok-find_inside_among.ensures
    ∙ ap (λ (ps : List Posting). c.loop-good.indices.items ++ filter (is_inside_at (atoms_of g.S.GoodsSet.goods c.args.kept.now) bundle) (indices_of ps))
    there in
    let more = IsFinding-more _ _ bundle _ _ _ _ c.requires.index rises
    (next_there goods bundle i c.requires.goods rises c.loop-good-test.true) found c.loop-good.invariant in
    rw (sym (behind_next goods bundle i c.requires.goods)) more

pub returns : goal.returns
returns g c =
    let goods = g.S.GoodsSet.goods in
    let bundle = goods c.args.bundle.now in
    let none = none_there c.args.goods.now bundle c.loop-good.good-index c.requires.goods (g.met.S.GoodsSet.is_bundle c.args.bundle.now).0
    c.loop-good.auto.good-index-end c.loop-good-test.false in
    IsFinding-all _ (atoms_of goods c.args.kept.now) bundle _ _ _ c.requires.index none c.loop-good.invariant
    c.sort_unstable.ensures.permutation c.sort_unstable.ensures.sorted
