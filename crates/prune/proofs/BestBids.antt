-- Bids sorted by bundle and by falling price: the first on each bundle are the best.
use Rattle.prune.proofs.Common.{rules, ◌≡◌, ℕ, ◌+◌, ◌<◌, ◌≤◌, Bool, true, false, cond, ltb, ◌⊎◌, inl, inr, ⊎_elim, List, [], ◌∷◌, map, length, get_or, refl}
use Rattle.prune.proofs.Common.{sym, ap, ap₂, ◌∙◌, subst, arith, le_refl, Ordering, Less, Equal, Greater, is_lt, AllPairs, Contains, IsPermutation}
use Rattle.prune.proofs.Common.{IsTotalOrder, filter, dedup, dedup_from, IsSortedBy, is_eq, ordering_then, cases_Bool, cases_lt, both_ways, false_from_ne_true}
use Rattle.prune.proofs.Common.{ltb-true, lt-ltb, cond-true, cond-false, on_total, then_total, back_total, nat_cmp_total, length-map, get_or-map, All-head}
use Rattle.prune.proofs.Common.{All-tail, All-from_recursion, IsStrictlySortedBy-dedup, Contains-from_dedup, sorted_far, ranks_by, Contains-permutation}
use Rattle.prune.proofs.Common.{IsPermutation-sym, IsPermutation-map, IsInside, is_inside, inside_refl, bundle_cmp, bundle_cmp_total, bundle_cmp_refl}
use Rattle.prune.proofs.Common.{bundle_cmp_equal, nat_cmp-lt, Atom, Contains-cons_cases, AllPairs-nil, AllPairs-cons, AllPairs-head, AllPairs-tail}
use Rattle.prune.proofs.Common.{AllPairs-map, map-filter, Contains-nil, Contains-head, Contains-tail, Contains-filter, Contains-filter_parts}
use Rattle.prune.proofs.Common.{All-from_Contains, IsBefore, IsInOrder, bid_cmp, AreBestBids}
use Rattle.std.specs.List.Sorted.{IsStrictlySortedBy}

abbrev pub is_bid_before : Atom (List ℕ) → Atom (List ℕ) → Bool
is_bid_before a b = is_lt (bid_cmp a b)

abbrev pub is_same_bundle : Atom (List ℕ) → Atom (List ℕ) → Bool
is_same_bundle a b = is_eq (bundle_cmp a.bundle b.bundle)

abbrev pub is_in_bundle : Atom (List ℕ) → Atom (List ℕ) → Bool
is_in_bundle a b = is_inside a.bundle b.bundle

abbrev pub has_price : Atom (List ℕ) → Bool
has_price a = ltb 0 a.price

pub bid_cmp_total : IsTotalOrder bid_cmp
bid_cmp_total = then_total (on_total (λ (a : Atom (List ℕ)). a.bundle) bundle_cmp_total) (back_total (on_total (λ (a : Atom (List ℕ)). a.price) nat_cmp_total))

on_bundles_total : IsTotalOrder (λ (a b : Atom (List ℕ)). bundle_cmp a.bundle b.bundle)
on_bundles_total = on_total (λ (a : Atom (List ℕ)). a.bundle) bundle_cmp_total

-- ---- the order

bundle_first : (o p : Ordering) → is_lt (ordering_then o p) ≡ false → is_lt o ≡ false
bundle_first Less p e = e
bundle_first Equal p e = refl
bundle_first Greater p e = refl

-- of two bids on one bundle the one that does not come first has no greater price
not_before_price : (a b : Atom (List ℕ)) → bundle_cmp a.bundle b.bundle ≡ Equal → is_bid_before a b ≡ false → a.price ≤ b.price
not_before_price a b e n = search (rules, nat_cmp-lt, both_ways, cases_lt)

equal_from_test : (a b : Atom (List ℕ)) → is_same_bundle a b ≡ true → bundle_cmp a.bundle b.bundle ≡ Equal
equal_from_test a b t = search rules

-- what does not come before a bid is inside its bundle only if the two are the same
inside_is_same : (earlier later : Atom (List ℕ)) → (IsInside later.bundle earlier.bundle → (bundle_cmp later.bundle earlier.bundle ≡ Less)
    ⊎ (later.bundle ≡ earlier.bundle)) → is_bid_before later earlier ≡ false → is_in_bundle later earlier ≡ is_same_bundle later earlier
inside_is_same earlier later ordered n =
    search (rules, cases_Bool, both_ways, bundle_cmp_refl, false_from_ne_true, bundle_cmp_equal, equal_from_test, inside_refl)

-- ---- what `dedup` keeps

abbrev NotBefore : Atom (List ℕ) → Atom (List ℕ) → Type 0
NotBefore earlier later = is_bid_before later earlier ≡ false

skip_second : (R : Atom (List ℕ) → Atom (List ℕ) → Type 0) (k x : Atom (List ℕ)) (xs : List (Atom (List ℕ))) → AllPairs R (k ∷ (x ∷ xs)) → AllPairs R (k ∷ xs)
skip_second R k x xs h = AllPairs-cons R k xs (All-tail (R k) x xs (AllPairs-head R k (x ∷ xs) h))
    (AllPairs-tail R x xs (AllPairs-tail R k (x ∷ xs) h))

-- two tests that say the same of each element and an earlier one keep the same
module _ (p q : Atom (List ℕ) → Atom (List ℕ) → Bool) where
  abbrev Agree : Atom (List ℕ) → Atom (List ℕ) → Type 0
  Agree earlier later = p later earlier ≡ q later earlier

  dedup_from_agree : (k : Atom (List ℕ)) (xs : List (Atom (List ℕ))) → AllPairs Agree (k ∷ xs) → dedup_from p k xs ≡ dedup_from q k xs
  dedup_from_agree k [] h = refl
  dedup_from_agree k (x ∷ xs) h =
      ap₂ (λ (same other : List (Atom (List ℕ))). cond (p x k) same (k ∷ other)) (dedup_from_agree k xs (skip_second Agree k x xs h))
      (dedup_from_agree x xs (AllPairs-tail Agree k (x ∷ xs) h))
      ∙ ap (λ b. cond b (dedup_from q k xs) (k ∷ dedup_from q x xs)) (All-head (Agree k) x xs (AllPairs-head Agree k (x ∷ xs) h))

  dedup_agree : (xs : List (Atom (List ℕ))) → AllPairs Agree xs → dedup p xs ≡ dedup q xs
  dedup_agree [] h = refl
  dedup_agree (x ∷ xs) h = dedup_from_agree x xs h

first_kept : (k : Atom (List ℕ)) (xs : List (Atom (List ℕ))) → Contains (dedup_from is_same_bundle k xs) k
first_kept k [] = Contains-head k []
first_kept k (x ∷ xs) =
    elim (is_same_bundle x k) as (λ b. Contains (cond b (dedup_from is_same_bundle k xs) (k ∷ dedup_from is_same_bundle x xs)) k) [
      | true ↦ first_kept k xs
      | false ↦ Contains-head k (dedup_from is_same_bundle x xs)
    ]

abbrev Dominated : List (Atom (List ℕ)) → Atom (List ℕ) → Type 0
Dominated best a = (b : Atom (List ℕ)) × Contains best b × (b.bundle ≡ a.bundle) × (a.price ≤ b.price)

dominated_from : (k : Atom (List ℕ)) (xs : List (Atom (List ℕ))) → AllPairs NotBefore (k ∷ xs) → (x : Atom (List ℕ)) → (k ≡ x) ⊎ Contains xs x
    → Dominated (dedup_from is_same_bundle k xs) x
dominated_from k xs s x (inl e) =
    (k, first_kept k xs, ap (λ (z : Atom (List ℕ)). z.bundle) e, subst (λ (z : Atom (List ℕ)). z.price ≤ k.price) e (le_refl k.price))
dominated_from k [] s x (inr c) = absurd (Contains-nil x c)
dominated_from k (y ∷ ys) s x (inr c) =
    elim (cases_Bool (is_same_bundle y k)) [
      | inl t ↦
          subst (λ (zs : List (Atom (List ℕ))). Dominated zs x)
          (sym (cond-true (is_same_bundle y k) (dedup_from is_same_bundle k ys) (k ∷ dedup_from is_same_bundle y ys) t))
          (⊎_elim
          (λ (e : y ≡ x).
          let same : bundle_cmp y.bundle k.bundle ≡ Equal = equal_from_test y k t in
          let price : y.price ≤ k.price = not_before_price y k same (AllPairs-head NotBefore k (y ∷ ys) s 0 y (omega arith)) in
          subst (λ (z : Atom (List ℕ)). Dominated (dedup_from is_same_bundle k ys) z) e (
            k,
            first_kept k ys,
            sym (bundle_cmp_equal y.bundle k.bundle same),
            price,
          ))
          (λ (d : Contains ys x). dominated_from k ys (skip_second NotBefore k y ys s) x (inr d))
          (Contains-cons_cases y ys x c))
      | inr t ↦
          subst (λ (zs : List (Atom (List ℕ))). Dominated zs x)
          (sym (cond-false (is_same_bundle y k) (dedup_from is_same_bundle k ys) (k ∷ dedup_from is_same_bundle y ys) t))
          (let r = dominated_from y ys (AllPairs-tail NotBefore k (y ∷ ys) s) x (Contains-cons_cases y ys x c) in
          (r.0, Contains-tail k (dedup_from is_same_bundle y ys) r.0 r.1, r.2, r.3))
    ]

dominated : (xs : List (Atom (List ℕ))) → AllPairs NotBefore xs → (x : Atom (List ℕ)) → Contains xs x → Dominated (dedup is_same_bundle xs) x
dominated [] s x c = absurd (Contains-nil x c)
dominated (y ∷ ys) s x c = dominated_from y ys s x (Contains-cons_cases y ys x c)

pairs_from_sorted : (xs : List (Atom (List ℕ))) → IsStrictlySortedBy (λ (a b : Atom (List ℕ)). bundle_cmp a.bundle b.bundle) xs → IsInOrder xs
unfolding IsStrictlySortedBy
pairs_from_sorted [] s = AllPairs-nil IsBefore
pairs_from_sorted (x ∷ xs) s = AllPairs-cons IsBefore x xs (All-from_recursion (IsBefore x) xs s.0) (pairs_from_sorted xs s.1)

-- ---- the best bids

pub best_from_sorted : (bids sorted : List (Atom (List ℕ))) → IsPermutation (filter has_price bids) sorted → IsSortedBy is_bid_before sorted
    → AreBestBids bids (dedup is_same_bundle sorted)
best_from_sorted bids sorted p up =
    let back : (b : Atom (List ℕ)) → Contains (dedup is_same_bundle sorted) b → Contains bids b × (has_price b ≡ true) =
    λ b c. Contains-filter_parts has_price bids b
    (Contains-permutation sorted (filter has_price bids) b (IsPermutation-sym (filter has_price bids) sorted p)
    (Contains-from_dedup is_same_bundle sorted b c)) in
    let pairs : AllPairs NotBefore sorted = λ i j d l m. sorted_far is_bid_before (ranks_by bid_cmp_total (λ (a : Atom (List ℕ)). a)) sorted up i j d
    (omega arith) m in
    record {
      in_order = pairs_from_sorted (dedup is_same_bundle sorted)
          (IsStrictlySortedBy-dedup on_bundles_total (λ a b. refl) sorted (λ k d l m. bundle_first _ _ (up k d l m)));
      among = All-from_Contains (Contains bids) (dedup is_same_bundle sorted) (λ b c. (back b c).0);
      positive = All-from_Contains (λ b. 0 < b.price) (dedup is_same_bundle sorted) (λ b c. ltb-true 0 b.price (back b c).1);
      dominates = All-from_Contains (λ a. 0 < a.price → Dominated (dedup is_same_bundle sorted) a) bids
          (λ a c l. dominated sorted pairs a (Contains-permutation (filter has_price bids) sorted a p
          (Contains-filter has_price bids a c (lt-ltb 0 a.price l))));
    }

-- ---- bids of the code, seen by the goods of their sets

module _ {X : Type 0} (seen : X → Atom (List ℕ)) where
  map-dedup_from : (same : Atom (List ℕ) → Atom (List ℕ) → Bool) (k : X) (xs : List X) → map seen (dedup_from (λ x y. same (seen x) (seen y)) k xs)
      ≡ dedup_from same (seen k) (map seen xs)
  map-dedup_from same k [] = refl
  map-dedup_from same k (x ∷ xs) = search (rules, (map-dedup_from same k xs), (map-dedup_from same x xs))

  map-dedup : (same : Atom (List ℕ) → Atom (List ℕ) → Bool) (xs : List X) → map seen (dedup (λ x y. same (seen x) (seen y)) xs) ≡ dedup same (map seen xs)
  map-dedup same [] = refl
  map-dedup same (x ∷ xs) = map-dedup_from same x xs

  map-sorted : (lt : Atom (List ℕ) → Atom (List ℕ) → Bool) (xs : List X) → IsSortedBy (λ x y. lt (seen x) (seen y)) xs → IsSortedBy lt (map seen xs)
  map-sorted lt [] up k d l m = absurd (omega arith)
  map-sorted lt (x ∷ xs) up k d l m =
      let long = length-map (x ∷ xs) seen in
      let here : k < length (x ∷ xs) = omega arith in
      let next : k + 1 < length (x ∷ xs) = omega arith in
      subst (λ (a : Atom (List ℕ)). lt a (get_or (map seen (x ∷ xs)) k d) ≡ false) (sym (get_or-map seen (x ∷ xs) (k + 1) x d next))
      (subst (λ (b : Atom (List ℕ)). lt (seen (get_or (x ∷ xs) (k + 1) x)) b ≡ false) (sym (get_or-map seen (x ∷ xs) k x d here)) (up k x l next))

  pub best_from_steps : (bids priced sorted best : List X)
      → ((later earlier : X) → IsInside (seen later).bundle (seen earlier).bundle → (bundle_cmp (seen later).bundle (seen earlier).bundle ≡ Less)
      ⊎ ((seen later).bundle ≡ (seen earlier).bundle))
      → priced ≡ filter (λ x. has_price (seen x)) bids → IsPermutation priced sorted → IsSortedBy (λ x y. is_bid_before (seen x) (seen y)) sorted
      → best ≡ dedup (λ x y. is_in_bundle (seen x) (seen y)) sorted → AreBestBids (map seen bids) (map seen best)
  best_from_steps bids priced sorted best ordered e p up d =
      let moved : IsPermutation (filter has_price (map seen bids)) (map seen sorted) =
      subst (λ (zs : List (Atom (List ℕ))). IsPermutation zs (map seen sorted)) (ap (map seen) e ∙ map-filter seen has_price bids)
      (IsPermutation-map seen priced sorted p) in
      let pairs : AllPairs (λ earlier later. is_bid_before (seen later) (seen earlier) ≡ false) sorted =
      λ i j z l m. sorted_far (λ x y. is_bid_before (seen x) (seen y)) (ranks_by bid_cmp_total seen) sorted up i j z (omega arith) m in
      let agree : AllPairs (Agree is_in_bundle is_same_bundle) (map seen sorted) =
      AllPairs-map (λ earlier later. is_bid_before (seen later) (seen earlier) ≡ false) (Agree is_in_bundle is_same_bundle) seen
      (λ earlier later n. inside_is_same (seen earlier) (seen later) (ordered later earlier) n) sorted pairs in
      subst (λ (zs : List (Atom (List ℕ))). AreBestBids (map seen bids) zs)
      (sym (ap (map seen) d ∙ map-dedup is_in_bundle sorted ∙ dedup_agree is_in_bundle is_same_bundle (map seen sorted) agree))
      (best_from_sorted (map seen bids) (map seen sorted) moved (map-sorted is_bid_before sorted up))
