-- `find_inside_among`
use Rattle.prune.proofs.Common.{◌≡◌, ◌++◌, take, filter, atoms_of, indices_of, is_inside_at}
use Rattle.prune.proofs.subset_index.find_inside_among.Given as goal

abbrev pub invariant-loop-posting : goal.invariant-loop-posting
invariant-loop-posting g l =
    let goods = g.S.GoodsSet.goods in
    l.found.items ≡ l.fn.found.items ++ filter (is_inside_at (atoms_of goods l.kept) (goods l.bundle))
    (take l.posting-index (indices_of l.postings))
