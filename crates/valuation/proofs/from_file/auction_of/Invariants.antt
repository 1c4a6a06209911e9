-- `auction_of`
use Rattle.valuation.proofs.Common.{◌≡◌, map, take, range_with_len, atoms_of, or_atoms_of, xor_atoms_of, bidders_of}
use Rattle.valuation.proofs.from_file.auction_of.Given as goal

-- the atoms of the bids so far are there
abbrev pub invariant-loop-number : goal.invariant-loop-number
invariant-loop-number g l =
    let goods = g.S.GoodsSet.goods in
    let file = g.B.Bids.file l.file in
    let bids = take l.number file.bids in
    record {
      or : atoms_of goods l.or_atoms.items ≡ or_atoms_of bids;
      xor : bidders_of goods l.xor_bidders.items ≡ map (xor_atoms_of bids) (range_with_len 0 file.dummy);
    }
