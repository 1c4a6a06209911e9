-- The numbers of the points of a packing, sorted. Different points of a packing are on different goods, so their numbers differ, and
-- rise once they are sorted; what holds of each two of them does not depend on their order.
use Rattle.analysis.proofs.Common.{eqb, [], rules, Contains-cons_cases, All-contains, Contains-nil, ◌≡◌, ℕ, ◌<◌, ◌≤◌, true, List, ◌∷◌, length, map, sym}
use Rattle.analysis.proofs.Common.{get_or, Option, None, refl, ap, subst₂, nat_cmp, All, AllPairs, Contains, IsPermutation, sum_by, list_all}
use Rattle.analysis.proofs.Common.{AllByRecursion, IsSorted, and_from, Decides-eqb, length-map, get_or-map, All-map, All-head, All-tail, recursion_from_All}
use Rattle.analysis.proofs.Common.{Contains-get_or, AllPairs-from_increasing, sum_by-cons, All-permutation, Contains-permutation, IsPermutation-sym, AreAbove}
use Rattle.analysis.proofs.Common.{IsNonDecreasingBy-from_sort, sum_by-IsPermutation, IsDistinct-IsPermutation, IsStrictlyIncreasing-from_distinct, IsRising}
use Rattle.analysis.proofs.Common.{IsDistinct-from_AllPairs, IsInside, are_apart, apart_sym, apart_inside_none, inside_refl, PlainBid, PlainFile, Atom, atom_at}
use Rattle.analysis.proofs.Common.{bid_from, AllPairs-head, AllPairs-tail, AllPairs-map, IsPackingFor, bid_at, all_apart, goods_at, IsPointBid, IsPointInside}
use Rattle.goods_set.specs.Bundles.{AreApart}
use Rattle.canon.specs.Lemmas.OrDifferences.{eqb_swap}

-- ---- lists

pub all_unmap : {X Y : Type 0} (P : Y → Type 0) (g : X → Y) (xs : List X) → All P (map g xs) → All (λ x. P (g x)) xs
all_unmap P g xs h k d l = search (rules, (length-map xs g), (get_or-map g xs k d (g d) l), (h k (g d)))

pub pairs_unmap : {X Y : Type 0} (R : Y → Y → Type 0) (g : X → Y) (xs : List X) → AllPairs R (map g xs) → AllPairs (λ x y. R (g x) (g y)) xs
pairs_unmap R g xs h i j d m l = let long = length-map xs g in
    search (rules, (get_or-map g xs i d (g d)), (get_or-map g xs j d (g d) l), (h i j (g d) m))

-- what holds of each two elements, in either order, holds of any two that differ
pub pairs_at : (R : ℕ → ℕ → Type 0) → ((x y : ℕ) → R x y → R y x) → (xs : List ℕ) → AllPairs R xs → (x y : ℕ) → Contains xs x → Contains xs y
    → (x ≡ y → ⊥) → R x y
pairs_at R flip [] h x y c d differ = absurd (Contains-nil x c)
pairs_at R flip (z ∷ zs) h x y c d differ = let later = λ (w : ℕ) (e : Contains zs w). All-contains (R z) zs w (AllPairs-head R z zs h) e in
    search (rules, (pairs_at R flip zs (AllPairs-tail R z zs h)), Contains-cons_cases)

above_from_all : (x : ℕ) (xs : List ℕ) → All (λ y. x < y) xs → AreAbove x xs
above_from_all x [] h = tt
above_from_all x (y ∷ ys) h = (All-head (λ z. x < z) y ys h, above_from_all x ys (All-tail (λ z. x < z) y ys h))

pub rising_from_pairs : (xs : List ℕ) → AllPairs (λ x y. x < y) xs → IsRising xs
rising_from_pairs [] h = tt
rising_from_pairs (x ∷ xs) h = (above_from_all x xs (AllPairs-head (λ y z. y < z) x xs h), rising_from_pairs xs (AllPairs-tail (λ y z. y < z) x xs h))

-- ---- numbers that differ, sorted

module _ (xs js : List ℕ) (same : IsPermutation xs js) (sorted : IsSorted nat_cmp js) (differ : AllPairs (λ i j. i ≡ j → ⊥) xs) where
  pub increasing : AllPairs (λ i j. i < j) js
  increasing =
      let distinct = IsDistinct-IsPermutation eqb eqb_swap xs js same (IsDistinct-from_AllPairs Decides-eqb xs differ) in
      search (rules, AllPairs-from_increasing, IsStrictlyIncreasing-from_distinct, IsNonDecreasingBy-from_sort)

  pub pairs_sorted : (R : ℕ → ℕ → Type 0) → ((x y : ℕ) → R x y → R y x) → AllPairs R xs → AllPairs R js
  pairs_sorted R flips pairs i j d m l = let up = increasing i j d m l in
      let back = λ (k : ℕ) (n : k < length js). Contains-permutation js xs (get_or js k d) (IsPermutation-sym xs js same) (Contains-get_or js k d n) in
      search (rules, (pairs_at R flips xs pairs), (back i), (back j l))

-- ---- bids that share no good

abbrev ShareNone : PlainFile → ℕ → ℕ → Type 0
ShareNone f i j = AreApart (bid_at f i).goods (bid_at f j).goods

one_apart : (f : PlainFile) (goods : List ℕ) (js : List ℕ) → All (λ j. AreApart goods (bid_at f j).goods) js → list_all (are_apart goods) (goods_at f js) ≡ true
one_apart f goods [] h = refl
one_apart f goods (j ∷ js) h = search (rules, (one_apart f goods js), and_from, All-head, All-tail)

apart_from_pairs : (f : PlainFile) (js : List ℕ) → AllPairs (ShareNone f) js → all_apart (goods_at f js) ≡ true
apart_from_pairs f [] h = refl
apart_from_pairs f (j ∷ js) h =
    search (rules, (apart_from_pairs f js (AllPairs-tail (ShareNone f) j js h)), and_from, one_apart, (AllPairs-head (ShareNone f) j js h))

-- ---- the numbers of a packing

-- the bid of this number is kept, and the point is what it offers
pub record IsPointOf (f : PlainFile) (dummy : Option ℕ) (atom : Atom (List ℕ)) (number : ℕ) : Type 0 where
  pub point : IsPointBid f number
  pub is : bid_at f number ≡ bid_from dummy atom

pub record AreOfPacking (f : PlainFile) (goods : List ℕ) (price : ℕ) (js : List ℕ) : Type 0 where
  pub rising : IsRising js
  pub each : AllByRecursion (IsPointInside f goods) js
  pub apart : all_apart (goods_at f js) ≡ true
  pub enough : price ≤ sum_by (λ j. (bid_at f j).price) js

module _ (f : PlainFile) (goods : List ℕ) (price : ℕ) (atoms : List (Atom (List ℕ))) (number : ℕ → ℕ) (indices js : List ℕ)
    (point : (p : ℕ) → p < length atoms → IsPointOf f None (atom_at atoms p) (number p))
    (some : (p : ℕ) → p < length atoms → 0 < length (atom_at atoms p).bundle)
    (packing : IsPackingFor atoms goods price indices) (same : IsPermutation (map number indices) js) (sorted : IsSorted nat_cmp js) where
  goods_is : (p : ℕ) → p < length atoms → (bid_at f (number p)).goods ≡ (atom_at atoms p).bundle
  goods_is p l = ap (λ (b : PlainBid). b.goods) (point p l).is

  record IsPair (p q : ℕ) : Type 0 where
    one : p < length atoms
    other : q < length atoms
    apart : AreApart (atom_at atoms p).bundle (atom_at atoms q).bundle

  pairs : AllPairs IsPair indices
  pairs = λ i j d m l. let apart = pairs_unmap (λ a b. AreApart a.bundle b.bundle) (atom_at atoms) indices packing.packing.apart i j d m l in
      search (rules, packing.packing.within)

  share_none : (p q : ℕ) → IsPair p q → ShareNone f (number p) (number q)
  share_none p q h = subst₂ AreApart (sym (goods_is p h.one)) (sym (goods_is q h.other)) h.apart

  differ : (p q : ℕ) → IsPair p q → number p ≡ number q → ⊥
  differ p q h e = let goods = (atom_at atoms p).bundle in
      let same_goods : (atom_at atoms q).bundle ≡ goods = search (rules, goods_is) in
      let none = apart_inside_none goods goods (inside_refl goods) (search rules) in search (rules, none, some)

  shared : AllPairs (ShareNone f) (map number indices)
  shared = AllPairs-map IsPair (ShareNone f) number share_none indices pairs

  different : AllPairs (λ i j. i ≡ j → ⊥) (map number indices)
  different = AllPairs-map IsPair (λ i j. i ≡ j → ⊥) number differ indices pairs

  inside_each : All (IsPointInside f goods) (map number indices)
  inside_each = All-map (IsPointInside f goods) number indices (λ k d l. let of = point (get_or indices k d) (packing.packing.within k d l) in
      search (rules, (all_unmap (λ a. IsInside a.bundle goods) (atom_at atoms) indices packing.packing.inside k d l)))

  sums : (ps : List ℕ) → All (λ p. p < length atoms) ps → sum_by (λ a. a.price) (map (atom_at atoms) ps) ≡ sum_by (λ j. (bid_at f j).price) (map number ps)
  sums [] h = refl
  sums (p ∷ ps) h = let here : (bid_at f (number p)).price ≡ (atom_at atoms p).price = search (rules, point, All-head) in
      search (rules, (sums ps (All-tail (λ q. q < length atoms) p ps h)), sum_by-cons)

  pub of_packing : AreOfPacking f goods price js
  of_packing = let total = sums indices packing.packing.within in
      let moved = sum_by-IsPermutation (λ j. (bid_at f j).price) (map number indices) js same in
      let apart = apart_from_pairs f js (search (rules, pairs_sorted, different, apart_sym, shared)) in
      search (rules, rising_from_pairs, increasing, different, recursion_from_All, All-permutation, inside_each)
