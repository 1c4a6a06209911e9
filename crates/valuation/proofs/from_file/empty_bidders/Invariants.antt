-- `empty_bidders`
use Rattle.valuation.proofs.Common.{◌≡◌, [], replicate, bidders_of}
use Rattle.valuation.proofs.from_file.empty_bidders.Given as goal

-- so many bidders are made
abbrev pub invariant-loop-count : goal.invariant-loop-count
invariant-loop-count g l = bidders_of g.S.GoodsSet.goods l.bidders.items ≡ replicate l.count-index []
