-- In a list of all bids in order, the first bid that does not come before a bidder and a bundle is the best of that bidder's bids
-- on that bundle, if there are any: each of them is there or after it.
use Rattle.analysis.proofs.Common.{[], rules, ◌≡◌, ℕ, zero, suc, ◌<◌, ◌≤◌, true, false, List, ◌∷◌, length, get_or, refl, ap, ap₂, ◌∙◌, arith}
use Rattle.analysis.proofs.Common.{Ordering, Equal, is_lt, nat_cmp, Contains, IsTotalOrder, ordering_then, ordering_reverse, and_parts, and_from}
use Rattle.analysis.proofs.Common.{cases_lt, both_ways, false_from_ne_true, eqb-true, eq-eqb, ltb-true, or_cases, not_from_false, on_total, then_total, bid_at}
use Rattle.analysis.proofs.Common.{nat_cmp_total, get_or_default, list_any_none, length-range_with_len, get_or-range_with_len, sorted_far, ranks_by, bundle_cmp}
use Rattle.analysis.proofs.Common.{Contains-permutation, IsPermutation-sym, bundle_cmp_total, bundle_cmp_equal, bundle_cmp_refl, nat_cmp-lt, nat_cmp-refl}
use Rattle.analysis.proofs.Common.{PlainBid, PlainFile, seen_bid, NumberedBid, bidder_of, are_alike, is_better, numbers_of, IsBestFor, numbered_cmp, AreInOrder}
use Rattle.analysis.proofs.Common.{IsSortedBy, IsPartitionedBy, IsPartitionPoint, ordering_index, back_total, length_permutation, searchable_from_sorted}
use Rattle.analysis.specs.BidOrders.{key_cmp}
use Rattle.canon.specs.Lemmas.Finding.{equal_from}

-- ---- lists

pub element_at : {X : Type 0} (xs : List X) (k : ℕ) → k < length xs → (x : X) × ((d : X) → get_or xs k d ≡ x)
element_at [] k l = absurd (omega arith)
element_at (x ∷ xs) zero l = (x, λ d. refl)
element_at (x ∷ xs) (suc k) l = let r = element_at xs k (omega arith) in (r.0, r.1)

-- ---- the order

pub key_cmp_total : IsTotalOrder key_cmp
key_cmp_total = then_total (on_total (λ (b : PlainBid). bidder_of b.dummy) nat_cmp_total) (on_total (λ (b : PlainBid). b.goods) bundle_cmp_total)

pub numbered_cmp_total : IsTotalOrder numbered_cmp
numbered_cmp_total = then_total (then_total (on_total (λ (n : NumberedBid). seen_bid n.bid) key_cmp_total)
    (search (rules, back_total, on_total, nat_cmp_total))) (on_total (λ (n : NumberedBid). n.number) nat_cmp_total)

pub key_first : (o p q : Ordering) → is_lt (ordering_then (ordering_then o p) q) ≡ false → is_lt o ≡ false
key_first o p q e = search rules

both_not_less : (o p : Ordering) → o ≡ ordering_reverse p → is_lt o ≡ false → is_lt p ≡ false → o ≡ Equal
both_not_less o p e f g = search rules

not_after : (o p : Ordering) → ordering_index o ≤ ordering_index p → is_lt p ≡ true → is_lt o ≡ true
not_after o p l e = search rules

-- ---- bids of one bidder on the same goods

pub record HaveOneKey (a b : PlainBid) : Type 0 where
  pub bidder : bidder_of a.dummy ≡ bidder_of b.dummy
  pub goods : a.goods ≡ b.goods

pub one_key : (a b : PlainBid) → are_alike a b ≡ true → HaveOneKey a b
one_key a b e = search (rules, and_parts, eqb-true, bundle_cmp_equal, equal_from)

pub alike_from : (a b : PlainBid) → HaveOneKey a b → are_alike a b ≡ true
alike_from a b h = search (rules, and_from, eq-eqb, bundle_cmp_refl)

pub key_same : (a b c : PlainBid) → HaveOneKey a b → key_cmp a c ≡ key_cmp b c
key_same a b c h = ap₂ (λ (m : ℕ) (xs : List ℕ). ordering_then (nat_cmp m (bidder_of c.dummy)) (bundle_cmp xs c.goods)) h.bidder h.goods

pub key_equal : (a b : PlainBid) → HaveOneKey a b → key_cmp a b ≡ Equal
key_equal a b h = search (rules, key_same, nat_cmp-refl, bundle_cmp_refl)

pub from_equal : (a b : PlainBid) → key_cmp a b ≡ Equal → HaveOneKey a b
from_equal a b e = search (rules, bundle_cmp_equal)

-- ---- the first that does not come before a key

module _ (f : PlainFile) (bids : List NumberedBid) (order : AreInOrder f bids) (target : PlainBid) where
  by_key : IsSortedBy (λ (a b : NumberedBid). is_lt (key_cmp (seen_bid a.bid) (seen_bid b.bid))) bids
  by_key k d l m = search (rules, key_first)

  pub partitioned : IsPartitionedBy (λ (n : NumberedBid). is_lt (key_cmp (seen_bid n.bid) target)) bids
  partitioned i j d l m h = not_after _ _ (searchable_from_sorted key_cmp_total (λ (n : NumberedBid). seen_bid n.bid) bids target by_key i j d l m) h

  has_own : (k : ℕ) → bid_at f k ≡ target → HaveOneKey (bid_at f k) target
  has_own k at = record { bidder = ap (λ (b : PlainBid). bidder_of b.dummy) at; goods = ap (λ (b : PlainBid). b.goods) at }

  -- where the bid of a number is in the list
  pub at_number : (k : ℕ) → k < length f.bids → (n : NumberedBid) × Contains bids n × (n.number ≡ k) × (seen_bid n.bid ≡ bid_at f k)
  at_number k l = let within : k < length order.numbered = omega (arith, l, order.are.long) in
      let r = element_at order.numbered k within in
      let each = order.are.each k r.0 within in
      (r.0, Contains-permutation order.numbered bids r.0 order.same (k, within, r.1 r.0), search (rules, (r.1 r.0), each), search (rules, each))

  -- each bid in the list is that of its number
  pub numbered : (n : NumberedBid) → Contains bids n → (n.number < length f.bids) × (seen_bid n.bid ≡ bid_at f n.number)
  numbered n c = let d = Contains-permutation bids order.numbered n (IsPermutation-sym order.numbered bids order.same) c in search rules

  module _ (index : ℕ)
      (point : IsPartitionPoint (λ (n : NumberedBid). is_lt (key_cmp (seen_bid n.bid) target) ≡ true)
      (λ (n : NumberedBid). is_lt (key_cmp (seen_bid n.bid) target) ≡ false) bids index) where
    -- a bid with the key is at the index or behind it
    behind : (k : ℕ) → k < length f.bids → HaveOneKey (bid_at f k) target
        → (n : NumberedBid) × (n.number ≡ k) × (seen_bid n.bid ≡ bid_at f k) × (q : ℕ) × (index ≤ q) × (q < length bids) × (get_or bids q n ≡ n)
    behind k l h = let r = at_number k l in search (rules, key_equal, both_ways, cases_lt)

    module _ (x : NumberedBid) (is : (d : NumberedBid) → get_or bids index d ≡ x) (there : index < length bids) where
      -- no bid behind it comes before it
      not_before : (n : NumberedBid) (q : ℕ) → index ≤ q → q < length bids → get_or bids q n ≡ n → is_lt (numbered_cmp n x) ≡ false
      not_before n q l m e = let far = sorted_far (λ a b. is_lt (numbered_cmp a b)) (ranks_by numbered_cmp_total (λ n. n)) bids order.sorted index q n l m in
          search (rules, is)

      facts : (x.number < length f.bids) × (seen_bid x.bid ≡ bid_at f x.number)
      facts = numbered x (index, there, is x)

      has_key : (k : ℕ) → k < length f.bids → HaveOneKey (bid_at f k) target → HaveOneKey (bid_at f x.number) target
      has_key k l h = let r = behind k l h in
          let first : is_lt (key_cmp (seen_bid r.0.bid) (seen_bid x.bid)) ≡ false = search (rules, key_first, (not_before r.0 r.3 r.4 r.5 r.6)) in
          let other : is_lt (key_cmp (seen_bid x.bid) target) ≡ false = search rules in
          search (rules, facts, from_equal, both_not_less, key_cmp_total)

      none_better : HaveOneKey (bid_at f x.number) target → (k : ℕ) → k < length f.bids → is_better f k x.number ≡ true → ⊥
      none_better own k l better = let parts = and_parts (are_alike (bid_at f k) (bid_at f x.number)) _ better in
          let r = behind k l (search (rules, one_key)) in
          let later = not_before r.0 r.3 r.4 r.5 r.6 in
          search (rules, facts, one_key, key_equal, ltb-true, both_ways, nat_cmp-lt, and_parts, eqb-true, nat_cmp-refl, or_cases)

      is_the_best : (k : ℕ) → k < length f.bids → bid_at f k ≡ target → IsBestFor f k x.number
      is_the_best k l at = let own = has_key k l (has_own k at) in
          let best = not_from_false _ (list_any_none (λ j. is_better f j x.number) (numbers_of f)
          (search (rules, length-range_with_len, get_or-range_with_len, false_from_ne_true, none_better))) in
          search (rules, facts, has_own, alike_from)

    -- there is one
    pub has_index : (k : ℕ) → k < length f.bids → bid_at f k ≡ target → index < length bids
    has_index k l at = let r = behind k l (has_own k at) in let m = r.4 in let n = r.5 in omega (arith, m, n)

    -- the bid at the index is the best
    pub first_is_best : (d : NumberedBid) (k : ℕ) → k < length f.bids → bid_at f k ≡ target → IsBestFor f k (get_or bids index d).number
    first_is_best d k l at = let there = has_index k l at in
        is_the_best (get_or bids index d) (λ e. get_or_default bids index e d there) there k l at

-- there are as many as in the file
pub length_of : (f : PlainFile) (bids : List NumberedBid) → AreInOrder f bids → length bids ≡ length f.bids
length_of f bids order = length_permutation order.numbered bids order.same ∙ order.are.long
