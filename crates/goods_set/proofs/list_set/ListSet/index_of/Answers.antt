-- `ListSet::index_of`
use Rattle.goods_set.proofs.Common.{List, ℕ, subst, IsBinarySearchResult, nat_cmp}
use Rattle.goods_set.proofs.Places.{placed}
use Rattle.goods_set.proofs.list_set.ListSet.index_of.Goals as goal

pub returns : goal.returns
returns c =
    let s = c.args.self.now in
    let found = subst (λ (xs : List ℕ). IsBinarySearchResult (λ y. nat_cmp y c.args.good) xs c.binary_search.result) c.as_slice.ensures
    c.binary_search.ensures.position in
    placed s.goods c.args.good c.binary_search.result s.bundle.0 found
