-- `bids_in_order`
use Rattle.analysis.proofs.Common.{rules, is_lt, ranks_by, NumberedBid, numbered_cmp, always_returns_same}
use Rattle.analysis.proofs.Explaining.BestBids.{numbered_cmp_total}
use Rattle.analysis.proofs.reasons.best.bids_in_order.Goals as goal

pub returns : goal.returns
returns c = record {
  numbered = _;
  are = c.in_ok-bids.ensures;
  same = c.sort_unstable_by.ensures.permutation;
  sorted = c.sort_unstable_by.ensures.sorted (λ a b. is_lt (numbered_cmp a b)) (ranks_by numbered_cmp_total (λ (n : NumberedBid). n))
      (always_returns_same _ _ _ (λ a r f k. search rules));
}
