-- `SubsetIndex::find_inside`
use Rattle.prune.proofs.Common.{atoms_of, lists_of}
use Rattle.prune.proofs.ListedAtoms.{IsFinding, behind_first}
use Rattle.prune.proofs.subset_index.SubsetIndex.find_inside.Given as goal

abbrev pub invariant-loop-good : goal.invariant-loop-good
invariant-loop-good g l =
    let goods = g.S.GoodsSet.goods in
    IsFinding (lists_of l.self.lists.items) (atoms_of goods l.kept) (goods l.bundle) (behind_first (goods l.bundle) l.good-index) l.indices.items
