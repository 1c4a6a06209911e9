-- `compare_bidders`
use Rattle.canon.proofs.Common.{◌≡◌, drop, atoms_of, bidder_cmp}
use Rattle.canon.proofs.normal.atom_order.compare_bidders.Given as goal

-- the atoms from here on decide
abbrev pub invariant-loop-i : goal.invariant-loop-i
invariant-loop-i g l =
    let goods = g.S.GoodsSet.goods in
    bidder_cmp (drop l.i (atoms_of goods l.one)) (drop l.i (atoms_of goods l.other)) ≡ bidder_cmp (atoms_of goods l.one) (atoms_of goods l.other)
