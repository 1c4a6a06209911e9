-- `first_dominating_among`
use Rattle.prune.proofs.Common.{length, atoms_of, indices_of, dominates_at}
use Rattle.prune.proofs.FirstDominating.{NonePass}
use Rattle.prune.proofs.subset_index.first_dominating_among.Given as goal

abbrev pub invariant-loop-posting : goal.invariant-loop-posting
invariant-loop-posting g l =
    let goods = g.S.GoodsSet.goods in
    NonePass (dominates_at (atoms_of goods l.kept) (goods l.bundle) l.price) (indices_of l.postings) (length l.kept) l.posting-index
