-- Bids of which each two can win. That does not depend on their order, and no number is there twice since a bid cannot win beside itself,
-- so such numbers are an allocation once they are sorted.
use Rattle.analysis.proofs.Common.{rules, IsSorted, ◌≡◌, ℕ, ◌<◌, ◌≤◌, true, not, ⊎_elim, ◌⊎◌, inl, inr, List, [], ◌∷◌, length, map, get_or, refl, sym, ap, Some}
use Rattle.analysis.proofs.Common.{subst, Option, None, arith, nat_cmp, All, AllPairs, Contains, IsPermutation, IsTrue, list_all, and_parts, and_from, All-head}
use Rattle.analysis.proofs.Common.{nat_cmp_total, All-tail, All-contains, All-permutation, sum_by-IsPermutation, AreBelow, all_bundles, are_apart, apart_sym}
use Rattle.analysis.proofs.Common.{all_bundles_has, apart_inside_none, inside_refl, PlainBid, PlainFile, IsPlainFile, AllPairs-nil, AllPairs-cons, Contains-map}
use Rattle.analysis.proofs.Common.{AllPairs-head, AllPairs-tail, Contains-cons_cases, Contains-unmap, le_or_lt, permutation-sort_by, sorted-sort_by, sort_by}
use Rattle.analysis.proofs.Common.{All-from_Contains, Contains-filter, Contains-filter_parts, Contains-nil, Contains-tail, list_all_at, list_all_from, bid_at}
use Rattle.analysis.proofs.Common.{AreWinners, IsAllocation, can_all_win, can_both_win, greatest_revenue, revenue, share_dummy, max, all_bundles_are, greatest}
use Rattle.analysis.proofs.Common.{allocations}
use Rattle.analysis.proofs.Explaining.KeptBids.{bid_here}
use Rattle.analysis.proofs.Explaining.Packings.{increasing, pairs_sorted, rising_from_pairs}
use Rattle.canon.specs.Lemmas.OrDifferences.{eqb_swap}

-- ---- two bids

abbrev pub CanWin : PlainFile → ℕ → ℕ → Type 0
CanWin f i j = IsTrue (can_both_win (bid_at f i) (bid_at f j))

share_flips : (o p : Option ℕ) → share_dummy o p ≡ share_dummy p o
share_flips None None = refl
share_flips None (Some e) = refl
share_flips (Some d) None = refl
share_flips (Some d) (Some e) = eqb_swap e d

pub both_flip : (a b : PlainBid) → IsTrue (can_both_win a b) → IsTrue (can_both_win b a)
both_flip a b h = search (rules, and_parts, and_from, apart_sym, share_flips)

not_beside_itself : (b : PlainBid) → 0 < length b.goods → IsTrue (can_both_win b b) → ⊥
not_beside_itself b some h =
    let parts = and_parts (are_apart b.goods b.goods) (not (share_dummy b.dummy b.dummy)) h in
    let none = ap (length {A = ℕ}) (apart_inside_none b.goods b.goods (inside_refl b.goods) parts.0) in
    omega arith

-- ---- each two bids

pub pairs_from_test : (f : PlainFile) (xs : List ℕ) → can_all_win f xs ≡ true → AllPairs (CanWin f) xs
pairs_from_test f [] h = AllPairs-nil (CanWin f)
pairs_from_test f (x ∷ xs) h =
    let test = λ (j : ℕ). can_both_win (bid_at f x) (bid_at f j) in
    let parts = and_parts (list_all test xs) (can_all_win f xs) h in
    AllPairs-cons (CanWin f) x xs (All-from_Contains (CanWin f x) xs (list_all_at test xs parts.0)) (pairs_from_test f xs parts.1)

test_from_pairs : (f : PlainFile) (xs : List ℕ) → AllPairs (CanWin f) xs → can_all_win f xs ≡ true
test_from_pairs f [] h = refl
test_from_pairs f (x ∷ xs) h =
    let test = λ (j : ℕ). can_both_win (bid_at f x) (bid_at f j) in
    and_from (list_all test xs) (can_all_win f xs)
    (list_all_from test xs (λ j c. All-contains (CanWin f x) xs j (AllPairs-head (CanWin f) x xs h) c))
    (test_from_pairs f xs (AllPairs-tail (CanWin f) x xs h))

-- ---- rising numbers

below_from_all : (n : ℕ) (xs : List ℕ) → All (λ x. x < n) xs → AreBelow n xs
below_from_all n [] h = tt
below_from_all n (x ∷ xs) h = (All-head (λ y. y < n) x xs h, below_from_all n xs (All-tail (λ y. y < n) x xs h))

all_below : (n : ℕ) (xs : List ℕ) → AreBelow n xs → (x : ℕ) → Contains xs x → x < n
all_below n [] h x c = absurd (Contains-nil x c)
all_below n (y ∷ ys) h x c = ⊎_elim (λ (e : y ≡ x). subst (λ z. z < n) e h.0) (all_below n ys h.1 x) (Contains-cons_cases y ys x c)

-- an allocation has numbers of bids
pub winners_within : (f : PlainFile) (winners : List ℕ) → IsAllocation f winners → All (λ i. i < length f.bids) winners
winners_within f winners h = All-from_Contains (λ i. i < length f.bids) winners (all_below (length f.bids) winners h.numbers.1)

module _ (f : PlainFile) (is : IsPlainFile f) (xs : List ℕ) (within : All (λ i. i < length f.bids) xs) (win : AllPairs (CanWin f) xs) where
  abbrev sorted : List ℕ
  sorted = sort_by nat_cmp xs

  same : IsPermutation xs sorted
  same = permutation-sort_by nat_cmp xs

  differ : AllPairs (λ i j. i ≡ j → ⊥) xs
  differ i j d m l e =
      let x = get_or xs i d in
      not_beside_itself (bid_at f x) (bid_here f is x (within i d (omega arith))).goods (subst (CanWin f x) (sym e) (win i j d m l))

  in_order : IsSorted nat_cmp sorted
  in_order = sorted-sort_by nat_cmp nat_cmp_total xs

  pub sorted_is_allocation : IsAllocation f sorted
  sorted_is_allocation =
      search (rules, rising_from_pairs, increasing, same, in_order, differ, below_from_all, All-permutation, test_from_pairs, pairs_sorted, both_flip)

pub revenue_of_sorted : (f : PlainFile) (xs : List ℕ) → revenue f (sort_by nat_cmp xs) ≡ revenue f xs
revenue_of_sorted f xs = sum_by-IsPermutation (λ i. (bid_at f i).price) xs (sort_by nat_cmp xs) (permutation-sort_by nat_cmp xs)

-- ---- the greatest revenue

greatest_bounds : (xs : List ℕ) (n : ℕ) → Contains xs n → n ≤ greatest xs
greatest_bounds [] n c = absurd (Contains-nil n c)
greatest_bounds (x ∷ xs) n c =
    ⊎_elim (λ (e : x ≡ n). omega arith) (λ (d : Contains xs n). let l = greatest_bounds xs n d in omega arith) (Contains-cons_cases x xs n c)

pub revenue_at_most : (f : PlainFile) (winners : List ℕ) → IsAllocation f winners → revenue f winners ≤ greatest_revenue f
revenue_at_most f winners h = greatest_bounds (map (revenue f) (allocations f)) (revenue f winners) (Contains-map (revenue f) (allocations f) winners
    (search (rules, Contains-filter, all_bundles_has)))

no_winners : (f : PlainFile) → IsAllocation f []
no_winners f = record { numbers = (tt, tt); win = refl }

greatest_there : (xs : List ℕ) → (greatest xs ≡ 0) ⊎ Contains xs (greatest xs)
greatest_there [] = inl refl
greatest_there (x ∷ xs) = ⊎_elim (λ (l : greatest xs ≤ x). let e : x ≡ max x (greatest xs) = omega arith in inr (0, omega arith, e))
    (λ (l : x < greatest xs).
    let e : max x (greatest xs) ≡ greatest xs = omega arith in
    ⊎_elim (λ (z : greatest xs ≡ 0). absurd (omega arith))
    (search (rules, Contains-tail))
    (greatest_there xs))
    (le_or_lt (greatest xs) x)

pub winners_there : (f : PlainFile) → (winners : List ℕ) × AreWinners f winners
winners_there f = ⊎_elim (search (rules, no_winners))
    (λ (c : Contains (map (revenue f) (allocations f)) (greatest_revenue f)).
    let r = Contains-unmap (revenue f) (allocations f) (greatest_revenue f) c in
    let parts = Contains-filter_parts (can_all_win f) (all_bundles (length f.bids)) r.0 r.1 in
    search (rules, All-contains, all_bundles_are))
    (greatest_there (map (revenue f) (allocations f)))

-- a file of which each allocation has one of at least its revenue in another, has no greater revenue
pub greatest_revenue_at_most : (f g : PlainFile)
    → ((winners : List ℕ) → IsAllocation f winners → (others : List ℕ) × IsAllocation g others × (revenue f winners ≤ revenue g others))
    → greatest_revenue f ≤ greatest_revenue g
greatest_revenue_at_most f g exchange = let best = winners_there f in search (rules, revenue_at_most)
