-- `count_by_bidder`
use Rattle.valuation.proofs.Common.{◌≡◌, vec_len}
use Rattle.valuation.proofs.from_file.count_by_bidder.Given as goal

-- each dummy good has a count
abbrev pub invariant-loop-number : goal.invariant-loop-number
invariant-loop-number g l = vec_len l.counts ≡ (g.B.Bids.file l.file).dummy
