-- `push_bids`: the bids so far, and those of the atoms still to come, are all bids.
use Rattle.canon.proofs.Common.{◌≡◌, ◌++◌, map, drop, atoms_of, bid_from}
use Rattle.canon.proofs.normal.file.push_bids.Given as goal

abbrev pub invariant-loop-atom : goal.invariant-loop-atom
invariant-loop-atom g l =
    let atoms = atoms_of g.S.GoodsSet.goods l.atoms in
    l.bids ++ map (bid_from l.dummy) (drop l.atom-index atoms) ≡ l.fn.bids ++ map (bid_from l.dummy) atoms
