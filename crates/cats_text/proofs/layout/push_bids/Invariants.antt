-- `push_bids`
use Rattle.cats_text.proofs.Common.{◌≡◌, ◌++◌, drop, bids_text}
use Rattle.cats_text.proofs.layout.push_bids.Given as goal

abbrev pub invariant-loop-number : goal.invariant-loop-number
invariant-loop-number g l =
    let file = g.B.Bids.file l.file in
    l.out.items ++ bids_text file.goods l.number (drop l.number file.bids) ≡ l.fn.out.items ++ bids_text file.goods 0 file.bids
