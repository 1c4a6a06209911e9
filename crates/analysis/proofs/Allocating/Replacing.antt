-- Kept bids in the place of dropped ones. Each is inside the goods of the bid that it replaces and is of its bidder, so it can win beside
-- whatever that bid can win beside.
use Rattle.analysis.proofs.Common.{rules, ◌≡◌, ℕ, ◌<◌, ◌≤◌, true, List, [], ◌∷◌, length, refl, sym, ap, subst, None, arith, eqb, All, AllPairs, Contains, Keep}
use Rattle.analysis.proofs.Common.{AllByRecursion, flat_map, list_all, and_parts, and_from, both_ways, eq-eqb, flat_map-cons, All-nil, All-cons, All-head, Zero}
use Rattle.analysis.proofs.Common.{All-tail, All-append, All-weaker, All-contains, All-from_recursion, sum_by-append, sum_by-cons, IsInside, are_apart, bid_at}
use Rattle.analysis.proofs.Common.{apart_sym, inside_refl, PlainFile, IsPlainFile, AllPairs-nil, AllPairs-cons, AllPairs-append, AllPairs-head, AllPairs-tail}
use Rattle.analysis.proofs.Common.{Contains-head, Contains-tail, is_best, PlainReason, Same, Inside, Packing, all_apart, goods_at, is_kept, IsDecided, revenue}
use Rattle.analysis.proofs.Common.{IsPointBid, IsPointInside, can_all_win, can_both_win, in_place_of, apart_inside, kept_by, named_by}
use Rattle.analysis.specs.Reasons.{reason_of}
use Rattle.analysis.proofs.Explaining.BestBids.{one_key}
use Rattle.analysis.proofs.Explaining.Deciding.{priced_within}
use Rattle.analysis.proofs.Explaining.KeptBidsBest.{best_is_greatest, best-once, one_key_sym}
use Rattle.analysis.proofs.Explaining.TrueReasons.{reason_is_decided}
use Rattle.analysis.proofs.Allocating.Allocations.{CanWin, pairs_from_test}
use Rattle.analysis.proofs.Allocating.Reasons.{kept_reason}

-- bid j may take the place of bid i
pub record StandsFor (f : PlainFile) (i j : ℕ) : Type 0 where
  pub within : j < length f.bids
  pub kept : is_kept (reason_of f j) ≡ true
  pub inside : IsInside (bid_at f j).goods (bid_at f i).goods
  pub bidder : (bid_at f j).dummy ≡ (bid_at f i).dummy

-- bids that can all win, and whose prices add up to that of bid i
pub record AreFor (f : PlainFile) (i : ℕ) (js : List ℕ) : Type 0 where
  pub each : All (StandsFor f i) js
  pub win : AllPairs (CanWin f) js
  pub enough : (bid_at f i).price ≤ revenue f js

stand_beside : (f : PlainFile) (i j k l : ℕ) → StandsFor f i k → StandsFor f j l → CanWin f i j → CanWin f k l
stand_beside f i j k l one other h = search (rules, and_parts, apart_inside, and_from, apart_sym)

-- ---- the bids that a reason names

point_stands : (f : PlainFile) → IsPlainFile f → (i j : ℕ) → IsPointBid f j → IsInside (bid_at f j).goods (bid_at f i).goods
    → (bid_at f j).dummy ≡ (bid_at f i).dummy → StandsFor f i j
point_stands f is i j point inside bidder = record {
  within = priced_within f j point.is.bid.positive;
  kept = ap is_kept (kept_reason f is j point.k point.is);
  inside = inside;
  bidder = bidder;
}

one_bid : (f : PlainFile) (i j : ℕ) → StandsFor f i j → (bid_at f i).price ≤ (bid_at f j).price → AreFor f i (j ∷ [])
one_bid f i j stands enough = search (rules, sum_by-cons, All-cons, All-nil, AllPairs-cons, AllPairs-nil)

packed_beside : (f : PlainFile) (i : ℕ) (js : List ℕ) → (bid_at f i).dummy ≡ None → list_all (are_apart (bid_at f i).goods) (goods_at f js) ≡ true
    → list_all (λ j. can_both_win (bid_at f i) (bid_at f j)) js ≡ true
packed_beside f i [] none h = refl
packed_beside f i (j ∷ js) none h = let near = are_apart (bid_at f i).goods (bid_at f j).goods in
    let parts = and_parts near (list_all (are_apart (bid_at f i).goods) (goods_at f js)) h in
    and_from (can_both_win (bid_at f i) (bid_at f j)) (list_all (λ k. can_both_win (bid_at f i) (bid_at f k)) js)
    (search (rules, and_from))
    (packed_beside f i js none parts.1)

packed_win : (f : PlainFile) (goods : List ℕ) (js : List ℕ) → AllByRecursion (IsPointInside f goods) js → all_apart (goods_at f js) ≡ true
    → can_all_win f js ≡ true
packed_win f goods [] each h = refl
packed_win f goods (j ∷ js) each h =
    let parts = and_parts (list_all (are_apart (bid_at f j).goods) (goods_at f js)) (all_apart (goods_at f js)) h in
    and_from (list_all (λ k. can_both_win (bid_at f j) (bid_at f k)) js) (can_all_win f js) (packed_beside f j js each.0.or parts.0)
    (packed_win f goods js each.1 parts.1)

none_for : (f : PlainFile) (i : ℕ) → (bid_at f i).price ≡ 0 → AreFor f i []
none_for f i e = record { each = All-nil (StandsFor f i); win = AllPairs-nil (CanWin f); enough = omega arith }

of_best : (f : PlainFile) → IsPlainFile f → (i : ℕ) → i < length f.bids → is_best f i ≡ true → (r : PlainReason) → IsDecided f i r → AreFor f i (named_by i r)
of_best f is i l best (Keep k) d = search (rules, one_bid, point_stands, inside_refl)
of_best f is i l best Zero d = none_for f i d
of_best f is i l best (Same j) d = absurd (both_ways (eqb j i) d.another (eq-eqb j i (best-once f j i d.best.within l d.best.best best d.best.alike)))
of_best f is i l best (Inside j) d = search (rules, one_bid, point_stands, and_parts)
of_best f is i l best (Packing js) d = record {
  each = search (rules, All-weaker, point_stands, All-from_recursion);
  win = pairs_from_test f js (packed_win f (bid_at f i).goods js d.each d.apart);
  enough = d.enough;
}

pub are_for : (f : PlainFile) → IsPlainFile f → (i : ℕ) → i < length f.bids → AreFor f i (in_place_of f i)
are_for f is i l = by (reason_of f i) (reason_is_decided f is i l)
  where
    by : (r : PlainReason) → IsDecided f i r → AreFor f i (kept_by f i r)
    by (Keep k) d = of_best f is i l d.bid.best (Keep k) d
    by Zero d = none_for f i d
    by (Same j) d = let key = one_key (bid_at f j) (bid_at f i) d.best.alike in
        let r = of_best f is j d.best.within d.best.best (reason_of f j) (reason_is_decided f is j d.best.within) in
        let most = best_is_greatest f j i d.best.best l (one_key_sym (bid_at f j) (bid_at f i) key) in
        record {
          each = search (rules, All-weaker);
          win = r.win;
          enough = omega arith;
        }
    by (Inside j) d = of_best f is i l d.bid.best (Inside j) d
    by (Packing js) d = of_best f is i l d.bid.best (Packing js) d

-- ---- all winners

-- each of the bids takes the place of one of the others
pub record AreForAll (f : PlainFile) (xs js : List ℕ) : Type 0 where
  pub each : All (λ j. (i : ℕ) × Contains xs i × StandsFor f i j) js
  pub win : AllPairs (CanWin f) js
  pub enough : revenue f xs ≤ revenue f js

pub all_replaced : (f : PlainFile) → IsPlainFile f → (xs : List ℕ) → All (λ i. i < length f.bids) xs → AllPairs (CanWin f) xs
    → AreForAll f xs (flat_map (in_place_of f) xs)
all_replaced f is [] within win =
    record { each = All-nil (λ j. (i : ℕ) × Contains [] i × StandsFor f i j); win = AllPairs-nil (CanWin f); enough = omega arith }
all_replaced f is (x ∷ xs) within win = let js = in_place_of f x in
    let ks = flat_map (in_place_of f) xs in
    let one = are_for f is x (All-head (λ i. i < length f.bids) x xs within) in
    let rest = all_replaced f is xs (All-tail (λ i. i < length f.bids) x xs within) (AllPairs-tail (CanWin f) x xs win) in
    let sum = sum_by-cons (λ i. (bid_at f i).price) x xs in
    let both = sum_by-append (λ i. (bid_at f i).price) js ks in
    subst (AreForAll f (x ∷ xs)) (sym (flat_map-cons (in_place_of f) x xs)) (record {
      each = All-append (λ j. (i : ℕ) × Contains (x ∷ xs) i × StandsFor f i j) js ks
          (search (rules, All-weaker, Contains-head))
          (All-weaker (λ j. (i : ℕ) × Contains xs i × StandsFor f i j) (λ j. (i : ℕ) × Contains (x ∷ xs) i × StandsFor f i j)
          (λ j s. (s.0, Contains-tail x xs s.0 s.1, s.2)) ks rest.each);
      win = AllPairs-append (CanWin f) js ks one.win rest.win
          (All-weaker (StandsFor f x) (λ j. All (CanWin f j) ks) (λ j s.
          All-weaker (λ k. (i : ℕ) × Contains xs i × StandsFor f i k) (CanWin f j) (λ k t.
          stand_beside f x t.0 j k s t.2 (All-contains (CanWin f x) xs t.0 (AllPairs-head (CanWin f) x xs win) t.1)) ks rest.each) js one.each);
      enough = omega arith;
    })
