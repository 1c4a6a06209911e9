-- The walk takes the next bid in. It is the best of its bidder's on its goods if the bid before it is not on the same goods of that bidder;
-- and at the first bid of a bidder the walk has passed none of it.
use Rattle.analysis.proofs.Common.{[], rules, ◌≡◌, ℕ, ◌+◌, ◌-◌, ◌<◌, ◌≤◌, true, false, List, length, get_or, take, Option, Some}
use Rattle.analysis.proofs.Common.{None, sym, ap, ◌∙◌, subst, arith, Ordering, is_lt, is_eq, ordering_reverse, and_parts}
use Rattle.analysis.proofs.Common.{both_ways, cases_lt, false_from_ne_true, ltb-true, append-nil, get_or_default, length-take-le, Contains-get_or, filter_more}
use Rattle.analysis.proofs.Common.{ranks_by, sorted_far, get_or_from_slice_get, slice_get_within, nat_cmp-lt, PlainBid, PlainFile, seen_bid, NumberedBid, Known}
use Rattle.analysis.proofs.Common.{Walk, bid_at, bidder_of, IsBestFor, AreInOrder, numbered_cmp, HasPassed, IsAt, is_best_of, passed_bids, get_or-take, IsNext}
use Rattle.analysis.proofs.Common.{IsBestAt, IsLastBest, best_after, dummy_of}
use Rattle.analysis.specs.BidOrders.{key_cmp}
use Rattle.analysis.proofs.Explaining.BestBids.{HaveOneKey, alike_from, first_is_best, from_equal, key_cmp_total, key_first, key_same, numbered, one_key}
use Rattle.analysis.proofs.Explaining.BestBids.{numbered_cmp_total, partitioned}
use Rattle.analysis.proofs.Explaining.KeptBidsBest.{best-once, same_bidder}
use Rattle.analysis.proofs.Explaining.KeptBidsLists.{filter_none}
use Rattle.canon.specs.Lemmas.Finding.{equal_from}
use Rattle.canon.specs.Lemmas.FirstChanges.{same_price_cases}

less_from : (o p : Ordering) → p ≡ ordering_reverse o → is_lt p ≡ false → is_eq o ≡ false → is_lt o ≡ true
less_from o p e l n = search rules

module _ {known : Known} {index : ℕ} {n : NumberedBid} (next : IsNext known index n) where
  abbrev f : PlainFile
  f = known.file.now

  abbrev bids : List NumberedBid
  bids = known.bids.items

  order : AreInOrder f bids
  order = next.is.order

  pub next_within : index < length bids
  next_within = slice_get_within bids index n next.there

  pub next_at : (d : NumberedBid) → get_or bids index d ≡ n
  next_at d = get_or_from_slice_get bids index n d next.there

  pub next_here : (n.number < length f.bids) × (seen_bid n.bid ≡ bid_at f n.number)
  next_here = numbered f bids order (bid_at f 0) n (index, next_within, next_at n)

  -- no bid comes before an earlier one
  key_after : (i j : ℕ) (d : NumberedBid) → i ≤ j → j < length bids → is_lt (key_cmp (seen_bid (get_or bids j d).bid) (seen_bid (get_or bids i d).bid)) ≡ false
  key_after i j d l m = key_first _ _ _ (sorted_far (λ (a b : NumberedBid). is_lt (numbered_cmp a b)) (ranks_by numbered_cmp_total (λ (n : NumberedBid). n))
      bids order.sorted i j d l m)

  bidders_rise : (i j : ℕ) (d : NumberedBid) → i ≤ j → j < length bids → bidder_of (get_or bids i d).bid.dummy ≤ bidder_of (get_or bids j d).bid.dummy
  bidders_rise i j d l m = let after = key_after i j d l m in search (rules, after, nat_cmp-lt, both_ways, cases_lt)

  -- ---- the best bid

  -- the next bid itself, if the last one is on other goods or of another bidder
  itself : ((d : NumberedBid) → 0 < index → is_lt (key_cmp (seen_bid (get_or bids (index - 1) d).bid) (seen_bid n.bid)) ≡ true) → IsBestFor f n.number n.number
  itself less = let best = first_is_best f bids order (seen_bid n.bid) index (
    λ i d lo hi. partitioned f bids order (seen_bid n.bid) i (index - 1) d (omega arith) (omega (arith, next_within)) (less d (omega arith)),
    λ i d lo hi. search (rules, (next_at d), (key_after index i d lo hi)),
  ) n n.number next_here.0 (sym next_here.1) in
      search (rules, (next_at n))

  module _ (last : NumberedBid) (best : IsLastBest f bids index last) where
    abbrev before : NumberedBid
    before = get_or bids (index - 1) last

    before_is : seen_bid before.bid ≡ bid_at f before.number
    before_is = (numbered f bids order (bid_at f 0) before (Contains-get_or bids (index - 1) last (omega (arith, next_within)))).1

    last_key : HaveOneKey (seen_bid last.bid) (seen_bid before.bid)
    last_key = search (rules, one_key, before_is)

    key : key_cmp (seen_bid last.bid) (seen_bid n.bid) ≡ key_cmp (seen_bid before.bid) (seen_bid n.bid)
    key = key_same (seen_bid last.bid) (seen_bid before.bid) (seen_bid n.bid) last_key

    not_after : is_lt (key_cmp (seen_bid n.bid) (seen_bid before.bid)) ≡ false
    not_after = search (rules, next_at, key_after, next_within)

    same_key : is_eq (key_cmp (seen_bid last.bid) (seen_bid n.bid)) ≡ true → IsBestFor f n.number last.number
    same_key t = search (rules, from_equal, equal_from, next_within, alike_from, next_here)

    other_key : is_eq (key_cmp (seen_bid last.bid) (seen_bid n.bid)) ≡ false → IsBestFor f n.number n.number
    other_key t = let less = less_from _ _ (key_cmp_total.antisymm (seen_bid n.bid) (seen_bid before.bid)) not_after (ap is_eq (sym key) ∙ t) in
        itself (λ d some. search (rules, (get_or_default bids (index - 1) d last (omega (arith, next_within))), less))

    -- the bids of another bidder come later
    none_of_other : (last.bid.dummy ≡ n.bid.dummy → ⊥) → passed_bids f bids n.bid.dummy index ≡ []
    none_of_other differ = filter_none (is_best_of f n.bid.dummy) (take index bids) last (λ i l.
        let long = length-take-le index bids (omega (arith, next_within)) in
        let low = bidders_rise i (index - 1) last (omega arith) (omega (arith, next_within)) in
        let high = bidders_rise (index - 1) index last (omega arith) next_within in
        search (rules, (get_or-take index bids i last), false_from_ne_true, next_at, last_key, same_bidder))

  -- ---- after the next bid

  abbrev pub best_then : NumberedBid → Type 0
  best_then b = IsBestFor f n.number b.number × (seen_bid b.bid ≡ bid_at f b.number)

  best_after_is : (o : Option NumberedBid) → IsBestAt f bids index o → best_then (best_after o n)
  best_after_is None none = search (rules, itself, next_here)
  best_after_is (Some last) best = search (rules, same_key, other_key, next_here)

  pub best_is : {walk : Walk} {b : NumberedBid} → IsAt f bids index walk → b ≡ best_after walk.best n → best_then b
  best_is {walk} at e = subst best_then (sym e) (best_after_is walk.best at.best)

  last_best : (b : NumberedBid) → best_then b → IsLastBest f bids (index + 1) b
  last_best b h = let same : get_or bids (index + 1 - 1) b ≡ n = ap (λ (k : ℕ). get_or bids k b) (omega arith) ∙ next_at b in search rules

  none_passed : (o : Option NumberedBid) → IsBestAt f bids index o → (dummy_of o ≡ n.bid.dummy → ⊥) → passed_bids f bids n.bid.dummy index ≡ []
  none_passed o at differ = search (rules, none_of_other)

  pub turned : {walk after : Walk} → IsAt f bids index walk
      → (dummy_of walk.best ≡ n.bid.dummy → (after.passed ≡ walk.passed) × (after.points.items ≡ walk.points.items))
      → ((dummy_of walk.best ≡ n.bid.dummy → ⊥) → (after.passed ≡ 0) × (after.points.items ≡ [])) → HasPassed f bids n.bid.dummy index after
  turned {walk} {after} is same other = search (rules, none_passed, same_price_cases)

  -- ---- a bid that is not a best bid with a price above 0

  skipped : {walk : Walk} → is_best_of f n.bid.dummy n ≡ false → HasPassed f bids n.bid.dummy index walk → HasPassed f bids n.bid.dummy (index + 1) walk
  skipped t h = let more = filter_more (is_best_of f n.bid.dummy) bids index n next_within in search (rules, more, (next_at n), t, append-nil)

  pub passed_zero : {walk : Walk} → n.bid.price ≡ 0 → HasPassed f bids n.bid.dummy index walk → HasPassed f bids n.bid.dummy (index + 1) walk
  passed_zero none h = skipped (search (rules, false_from_ne_true, and_parts, ltb-true)) h

  pub passed_same : {walk : Walk} (b : NumberedBid) → best_then b → (b.number ≡ n.number → ⊥) → HasPassed f bids n.bid.dummy index walk
      → HasPassed f bids n.bid.dummy (index + 1) walk
  passed_same b best differ h = skipped (search (rules, false_from_ne_true, and_parts, best-once, next_here)) h

  -- the walk is behind it
  pub at_next : {after : Walk} {b : NumberedBid} → best_then b → after.best ≡ Some b → HasPassed f bids n.bid.dummy (index + 1) after
      → IsAt f bids (index + 1) after
  at_next {after} {b} best held h = search (rules, one_key, same_bidder, next_here, last_best)

  pub own_price : (bid_at f n.number).price ≡ n.bid.price
  own_price = ap (λ (z : PlainBid). z.price) (sym next_here.1)
