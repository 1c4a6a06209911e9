-- `first_dominating_listed`
use Rattle.prune.proofs.Common.{atoms_of, lists_of}
use Rattle.prune.proofs.FirstDominating.{IsFirstSoFar}
use Rattle.prune.proofs.ListedAtoms.{behind_first}
use Rattle.prune.proofs.subset_index.first_dominating_listed.Given as goal

abbrev pub invariant-loop-good : goal.invariant-loop-good
invariant-loop-good g l =
    let goods = g.S.GoodsSet.goods in
    let bundle = goods l.bid.bundle in
    IsFirstSoFar (lists_of l.lists) (atoms_of goods l.kept) bundle l.bid.price (behind_first bundle l.good-index) l.first
