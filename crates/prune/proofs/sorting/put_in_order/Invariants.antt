-- `put_in_order`
use Rattle.prune.proofs.Common.{◌≡◌, vec_len, IsPermutation}
use Rattle.prune.proofs.sorting.put_in_order.Given as goal

abbrev pub invariant-loop-to : goal.invariant-loop-to
invariant-loop-to g l = record {
  moved : IsPermutation l.fn.bids.items l.bids.items;
  len : vec_len l.bids ≡ vec_len l.fn.bids;
}
