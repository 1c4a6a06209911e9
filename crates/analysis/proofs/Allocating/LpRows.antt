-- The rows are met exactly by allocations: two winners that share a good, or a dummy good, are both in its row, and other winners are not.
-- A row's bids are those of all numbers that pass a test, so they rise; and so are the winners, whose prices the objective adds up.
use Rattle.analysis.proofs.Common.{count_by-le-length, range_rises, IsRising-filter, length-filter, [], rules, ◌≡◌, ℕ, ◌+◌, ◌*◌, ◌<◌, ◌≤◌, Bool, true, false}
use Rattle.analysis.proofs.Common.{not, ⊎_elim, ◌⊎◌, List, ◌∷◌, ◌++◌, length, map, refl, sym, ap, ◌∙◌, subst, Option, Some, None, arith, IsTrue, if◌then◌else◌}
use Rattle.analysis.proofs.Common.{sum_by, filter, list_all, range_with_len, and_from, and_parts, both_ways, cases_Bool, eq-eqb, eqb-true, IsBid, lt-ltb}
use Rattle.analysis.proofs.Common.{not_from_false, false_from_ne_true, not-true, All-contains, Contains-append_cases, Contains-append_left, sum_by-cons}
use Rattle.analysis.proofs.Common.{Contains-append_right, IsBundle, IsRising, are_apart, has_good, apart_from, has-filter, has_above, has_below, has_cases}
use Rattle.analysis.proofs.Common.{same_from_has, IsDummyBelow, IsPlainFile, PlainBid, PlainFile, dummy_good, goods_of, Contains-map, Contains-unmap, bid_at}
use Rattle.analysis.proofs.Common.{All-from_Contains, Contains-filter, Contains-filter_parts, filter-kept, filter-lost, list_all_from, revenue, range_contains}
use Rattle.analysis.proofs.Common.{numbers_of, can_all_win, can_both_win, share_dummy, PlainRow, bids_with, is_shared, lp_rows, row_of, apart_at, has_head}
use Rattle.analysis.proofs.Common.{ltb-true, EXACT_SUMS, are_sums_exact}
use Rattle.analysis.proofs.Common.{has_tail, AreRowsMet, objective, value_of, contains_from_has, has_from_contains, common_steps}
use Rattle.analysis.proofs.Explaining.KeptBids.{bid_here}
use Rattle.analysis.proofs.Allocating.Allocations.{CanWin, both_flip, pairs_from_test}
use Rattle.analysis.proofs.Explaining.Packings.{pairs_at}

-- ---- how many a list has

one_at_most : (xs : List ℕ) → IsRising xs → ((x y : ℕ) → has_good xs x ≡ true → has_good xs y ≡ true → x < y → ⊥) → length xs ≤ 1
one_at_most [] r h = omega arith
one_at_most (x ∷ []) r h = omega arith
one_at_most (x ∷ (y ∷ ys)) r h = absurd (h x y (has_head x (y ∷ ys)) (has_tail x (y ∷ ys) y (has_head y ys)) r.0.0)

two_at_least : (xs : List ℕ) (y z : ℕ) → has_good xs y ≡ true → has_good xs z ≡ true → y < z → 2 ≤ length xs
two_at_least [] y z h k l = absurd (both_ways false refl h)
two_at_least (x ∷ []) y z h k l = search (rules, has_cases, both_ways)
two_at_least (x ∷ (w ∷ ws)) y z h k l = omega arith

-- a sum over those that pass a test
weighed : (p : ℕ → Bool) (weight : ℕ → ℕ) (xs : List ℕ) → sum_by (λ i. weight i * (if p i then 1 else 0)) xs ≡ sum_by weight (filter p xs)
weighed p weight [] = refl
weighed p weight (x ∷ xs) = let sum = sum_by-cons (λ i. weight i * (if p i then 1 else 0)) x xs in
    let rest = weighed p weight xs in
    search (rules, filter-kept, sum_by-cons, filter-lost, cases_Bool)

-- a sum over those that pass a test is at most the sum over all
passing_at_most : (p : ℕ → Bool) (weight : ℕ → ℕ) (xs : List ℕ) → sum_by weight (filter p xs) ≤ sum_by weight xs
passing_at_most p weight [] = omega arith
passing_at_most p weight (x ∷ xs) = let rest = passing_at_most p weight xs in
    let sum = sum_by-cons weight x xs in
    ⊎_elim
    (λ (t : p x ≡ true). let kept = ap (sum_by weight) (filter-kept p x xs t) ∙ sum_by-cons weight x (filter p xs) in omega (arith, rest, sum, kept))
    (λ (t : p x ≡ false). let lost = ap (sum_by weight) (filter-lost p x xs t) in omega (arith, rest, sum, lost))
    (cases_Bool (p x))

-- ---- the numbers of a file's bids that pass a test

module _ (f : PlainFile) where
  pub in_numbers : (i : ℕ) → i < length f.bids → has_good (numbers_of f) i ≡ true
  in_numbers i l = has_from_contains (numbers_of f) i (range_contains (length f.bids) i l)

  pub passing_rise : (p : ℕ → Bool) → IsRising (filter p (numbers_of f))
  passing_rise p = IsRising-filter p (numbers_of f) (range_rises 0 (length f.bids))

  pub objective_is_revenue : (winners : List ℕ) → IsBundle (length f.bids) winners → objective f winners ≡ revenue f winners
  objective_is_revenue winners h = let price : ℕ → ℕ = λ i. (bid_at f i).price in
      weighed (has_good winners) price (numbers_of f)
      ∙ ap (sum_by price) (same_from_has (filter (has_good winners) (numbers_of f)) winners (passing_rise (has_good winners)) h.0
      (search (rules, and_parts, has-filter))
      (search (rules, has-filter, and_from, in_numbers, has_below)))

  pub sums_are_exact : are_sums_exact f ≡ true → (winners : List ℕ) → objective f winners < EXACT_SUMS
  sums_are_exact all winners = let price : ℕ → ℕ = λ i. (bid_at f i).price in
      let sum = weighed (has_good winners) price (numbers_of f) in
      let most = passing_at_most (has_good winners) price (numbers_of f) in
      let less = ltb-true _ _ all in
      omega (arith, sum, most, less)

-- ---- the goods that two bids share

has_left : (xs ys : List ℕ) (g : ℕ) → has_good xs g ≡ true → has_good (xs ++ ys) g ≡ true
has_left xs ys g h = has_from_contains (xs ++ ys) g (Contains-append_left xs ys g (contains_from_has xs g h))

has_right : (xs ys : List ℕ) (g : ℕ) → has_good ys g ≡ true → has_good (xs ++ ys) g ≡ true
has_right xs ys g h = has_from_contains (xs ++ ys) g (Contains-append_right xs ys g (contains_from_has ys g h))

has_either : (xs ys : List ℕ) (g : ℕ) → has_good (xs ++ ys) g ≡ true → (has_good xs g ≡ true) ⊎ (has_good ys g ≡ true)
has_either xs ys g h = grind (arith, common_steps, has_from_contains, Contains-append_cases, contains_from_has)

in_dummy : (G : ℕ) (o : Option ℕ) (g : ℕ) → has_good (dummy_good G o) g ≡ true → (d : ℕ) × (o ≡ Some d) × (G + d ≡ g)
in_dummy G None g h = absurd (both_ways false refl h)
in_dummy G (Some d) g h = ⊎_elim (λ (e : G + d ≡ g). (d, refl, e)) (λ (k : false ≡ true). absurd (both_ways false refl k)) (has_cases (G + d) [] g h)

pub same_dummy : (o p : Option ℕ) → share_dummy o p ≡ true → (d : ℕ) × (o ≡ Some d) × (p ≡ Some d)
same_dummy None p s = absurd (both_ways false refl s)
same_dummy (Some d) None s = absurd (both_ways false refl s)
same_dummy (Some d) (Some e) s = (d, refl, ap Some (eqb-true e d s))

module _ (G D : ℕ) (a b : PlainBid) (is_a : IsBid G D a) (is_b : IsBid G D b) where
  below_a : (g : ℕ) → has_good a.goods g ≡ true → g < G
  below_a g h = has_below G a.goods g is_a.below h

  below_b : (g : ℕ) → has_good b.goods g ≡ true → g < G
  below_b g h = has_below G b.goods g is_b.below h

  pub share_none : IsTrue (can_both_win a b) → (g : ℕ) → has_good (goods_of G a) g ≡ true → has_good (goods_of G b) g ≡ true → ⊥
  share_none win g h k = search (rules, and_parts, apart_at, in_dummy, below_a, has_either, below_b, not-true, eq-eqb)

  pub both_win : ((g : ℕ) → g < G + D → has_good (goods_of G a) g ≡ true → has_good (goods_of G b) g ≡ true → ⊥) → IsTrue (can_both_win a b)
  both_win clash = and_from (are_apart a.goods b.goods) (not (share_dummy a.dummy b.dummy))
      (apart_from a.goods b.goods (λ g h. false_from_ne_true (has_good b.goods g) (λ k.
      let l = below_a g h in clash g (omega arith) (has_left a.goods (dummy_good G a.dummy) g h) (has_left b.goods (dummy_good G b.dummy) g k))))
      (not_from_false (share_dummy a.dummy b.dummy) (false_from_ne_true (share_dummy a.dummy b.dummy) (λ s.
      let d = same_dummy a.dummy b.dummy s in
      let l : d.0 < D = subst (IsDummyBelow D) d.1 is_a.dummy in
      let g : ℕ = G + d.0 in
      clash g (omega arith) (search (rules, has_right))
      (search (rules, has_right)))))

-- ---- the rows

all_win : (f : PlainFile) (xs : List ℕ) → IsRising xs → ((x y : ℕ) → has_good xs x ≡ true → has_good xs y ≡ true → x < y → CanWin f x y)
    → can_all_win f xs ≡ true
all_win f [] r h = refl
all_win f (x ∷ xs) r h = let test = λ (j : ℕ). can_both_win (bid_at f x) (bid_at f j) in
    and_from (list_all test xs) (can_all_win f xs)
    (search (rules, list_all_from, has_from_contains, has_head, has_tail, has_above))
    (all_win f xs r.1 (λ a b p q. h a b (has_tail x xs a p) (has_tail x xs b q)))

module _ (f : PlainFile) (is : IsPlainFile f) (winners : List ℕ) (numbers : IsBundle (length f.bids) winners) where
  abbrev has : ℕ → ℕ → Bool
  has g i = has_good (goods_of f.goods (bid_at f i)) g

  abbrev all_goods : List ℕ
  all_goods = range_with_len 0 (f.goods + f.dummy)

  here : (x : ℕ) → has_good winners x ≡ true → IsBid f.goods f.dummy (bid_at f x)
  here x h = bid_here f is x (has_below (length f.bids) winners x numbers.1 h)

  pub rows_met : can_all_win f winners ≡ true → AreRowsMet f winners
  rows_met win = All-from_Contains (λ row. sum_by (value_of winners) row.bids ≤ 1) (lp_rows f) (λ row c.
      let r = Contains-unmap (row_of f) all_goods row (Contains-filter_parts is_shared (map (row_of f) all_goods) row c).0 in
      let g = r.0 in
      let bids = bids_with f g in
      let both : (x : ℕ) → has_good (filter (has_good winners) bids) x ≡ true → (has_good winners x ≡ true) × (has g x ≡ true) =
      λ x h. let of = and_parts (has_good winners x) (has_good bids x) (sym (has-filter (has_good winners) bids x) ∙ h) in
      (of.0, (and_parts (has g x) (has_good (numbers_of f) x) (sym (has-filter (has g) (numbers_of f) x) ∙ of.1)).0) in
      let few = one_at_most (filter (has_good winners) bids) (IsRising-filter (has_good winners) bids (passing_rise f (has g))) (λ x y h k l.
      share_none f.goods f.dummy (bid_at f x) (bid_at f y) (here x (both x h).0) (here y (both y k).0)
      (pairs_at (CanWin f) (λ i j q. both_flip (bid_at f i) (bid_at f j) q) winners (pairs_from_test f winners win) x y
      (contains_from_has winners x (both x h).0) (contains_from_has winners y (both y k).0) (λ e. omega arith))
      g (both x h).1 (both y k).1) in
      subst (λ (s : PlainRow). sum_by (value_of winners) s.bids ≤ 1) (sym r.2) (subst (λ n. n ≤ 1) (length-filter (has_good winners) bids) few))

  pub all_win_from_rows : AreRowsMet f winners → can_all_win f winners ≡ true
  all_win_from_rows met = all_win f winners numbers.0 (λ x y h k l.
      both_win f.goods f.dummy (bid_at f x) (bid_at f y) (here x h) (here y k) (λ g m p q.
      let bids = bids_with f g in
      let with : (z : ℕ) → has_good winners z ≡ true → has g z ≡ true → has_good (filter (has_good winners) bids) z ≡ true =
      search (rules, has-filter, and_from, in_numbers, has_below) in
      let two = two_at_least (filter (has_good winners) bids) x y (with x h p) (with y k q) l in
      let counted = length-filter (has_good winners) bids in
      let long = count_by-le-length (has_good winners) bids in
      let there = Contains-filter is_shared (map (row_of f) all_goods) (row_of f g)
      (Contains-map (row_of f) all_goods g (range_contains (f.goods + f.dummy) g m)) (lt-ltb 1 (length bids) (omega arith)) in
      let one = All-contains (λ row. sum_by (value_of winners) row.bids ≤ 1) (lp_rows f) (row_of f g) met there in
      absurd (omega (arith, one, two))))
