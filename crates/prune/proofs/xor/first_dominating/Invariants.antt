-- `first_dominating`: none of the atoms so far dominates the bid.
use Rattle.prune.proofs.Common.{◌≡◌, ℕ, ◌<◌, false, atoms_of, dominates_at}
use Rattle.prune.proofs.xor.first_dominating.Given as goal

abbrev pub invariant-loop-index : goal.invariant-loop-index
invariant-loop-index g l =
    let goods = g.S.GoodsSet.goods in
    (k : ℕ) → k < l.index → dominates_at (atoms_of goods l.atoms) (goods l.bid.bundle) l.bid.price k ≡ false
