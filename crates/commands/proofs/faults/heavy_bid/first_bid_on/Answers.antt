-- `first_bid_on`
use Rattle.commands.proofs.Common.{◌≡◌, ◌<◌, ◌+◌, ℕ, Bool, true, false, List, [], length, get_or, None, Some, sym, ap, ◌∙◌, arith, slice_get}
use Rattle.commands.proofs.Common.{position_or_len_is, get_or_from_slice_get, slice_get_within, PlainBid, seen_bid, is_on}
use Rattle.commands.proofs.faults.heavy_bid.first_bid_on.Goals as goal

module _ (p : PlainBid → Bool) (bids : List PlainBid) (i : ℕ) (seen : PlainBid) (is : slice_get bids i ≡ Some seen) where
  passes_there : (answer : Bool) → p seen ≡ answer → (d : PlainBid) → p (get_or bids i d) ≡ answer
  passes_there answer e d = ap p (get_or_from_slice_get bids i seen d is) ∙ e

  none_through : ((k : ℕ) (d : PlainBid) → k < i → p (get_or bids k d) ≡ false) → p seen ≡ false
      → (k : ℕ) (d : PlainBid) → k < i + 1 → p (get_or bids k d) ≡ false
  none_through before e k d below = grind (arith, before k d, passes_there false e d)

pub loop-number-preserved : goal.loop-number-preserved
loop-number-preserved c =
    none_through (is_on c.args.goods.now) c.args.file.now.bids c.loop-number.number (seen_bid c.at.result) c.at.ensures c.loop-number.invariant
    (sym c.is_on.ensures ∙ c.if-is_on.false)

pub returns-then-is_on : goal.returns-then-is_on
returns-then-is_on c =
    let bids : List PlainBid = c.args.file.now.bids in
    let seen : PlainBid = seen_bid c.at.result in
    let below : c.loop-number.number < length bids = slice_get_within bids c.loop-number.number seen c.at.ensures in
    let found : is_on c.args.goods.now seen ≡ true = sym c.is_on.ensures ∙ c.if-is_on.true in
    sym (position_or_len_is (is_on c.args.goods.now) bids c.loop-number.number seen (omega arith) (λ k. c.loop-number.invariant k seen)
    (λ l. passes_there (is_on c.args.goods.now) bids c.loop-number.number seen c.at.ensures true found seen))

pub returns : goal.returns
returns c =
    let end : c.loop-number.number ≡ length c.args.file.now.bids =
    omega (arith, c.len-count.ensures, c.loop-number-test.false, c.loop-number.auto.number-end) in
    let none : PlainBid = record { price = 0; goods = []; dummy = None } in
    sym (position_or_len_is (is_on c.args.goods.now) c.args.file.now.bids c.len-count.result none (omega (arith, c.len-count.ensures))
    (λ k below. c.loop-number.invariant k none (omega (arith, end, c.len-count.ensures))) (λ l. absurd (omega (arith, c.len-count.ensures))))
