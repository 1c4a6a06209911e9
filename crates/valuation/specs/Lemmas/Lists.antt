-- Lemmas on lists: what holds of each element, of each pair of elements, and of the indices of a list and of the list behind its
-- first element.
use Rattle.std.proofs.Common.{rules, ◌≡◌, ℕ, zero, suc, pred, ◌<◌, ◌≤◌, ◌≢◌, ◌⊎◌, inl, inr, ⊎_elim, List, [], ◌∷◌, ◌++◌, map, get_or, refl, sym, ap}
use Rattle.std.proofs.Common.{◌∙◌, ◌+◌, Bool, true, false, length, take, append-nil, arith}
use Rattle.std.specs.Prelude.{All, AllPairs, Contains, filter}
use Rattle.std.proofs.lemmas.Bool.{cases_lt}
use Rattle.std.proofs.lemmas.Grind.{common_steps}
use Rattle.std.proofs.lemmas.List.Elements.{All-nil, All-cons, All-head, All-tail, All-append, All-map, All-weaker, Contains-append_right, filter_more}

pub le_or_lt : (m n : ℕ) → (m ≤ n) ⊎ (n < m)
le_or_lt m n = ⊎_elim (λ (l : n < m). inr l) (λ (l : m ≤ n). inl l) (cases_lt n m)

-- an element of a list is the first one or among the others
pub Contains-cons_cases : {X : Type 0} (y : X) (xs : List X) (x : X) → Contains (y ∷ xs) x → (y ≡ x) ⊎ Contains xs x
Contains-cons_cases {X} y xs x c = search rules

-- ---- each pair of elements

pub AllPairs-nil : {X : Type 0} (R : X → X → Type 0) → AllPairs R []
AllPairs-nil R i j d l m = absurd (omega arith)

pub AllPairs-cons : {X : Type 0} (R : X → X → Type 0) (x : X) (xs : List X) → All (R x) xs → AllPairs R xs → AllPairs R (x ∷ xs)
AllPairs-cons R x xs h k zero zero d l m = absurd (omega arith)
AllPairs-cons R x xs h k zero (suc j) d l m = h j d (omega arith)
AllPairs-cons R x xs h k (suc i) zero d l m = absurd (omega arith)
AllPairs-cons R x xs h k (suc i) (suc j) d l m = k i j d (omega arith) (omega arith)

pub AllPairs-head : {X : Type 0} (R : X → X → Type 0) (x : X) (xs : List X) → AllPairs R (x ∷ xs) → All (R x) xs
AllPairs-head R x xs h k d l = h 0 (suc k) d (omega arith) (omega arith)

pub AllPairs-tail : {X : Type 0} (R : X → X → Type 0) (x : X) (xs : List X) → AllPairs R (x ∷ xs) → AllPairs R xs
AllPairs-tail R x xs h i j d l m = h (suc i) (suc j) d (omega arith) (omega arith)

-- ---- indices of a list, and of the list behind its first element

-- each number is one more
pub All-map_suc : (P : ℕ → Type 0) (indices : List ℕ) → All (λ i. P (suc i)) indices → All P (map suc indices)
All-map_suc P [] h = All-nil P
All-map_suc P (i ∷ indices) h =
    All-cons P (suc i) (map suc indices) (All-head (λ i. P (suc i)) i indices h) (All-map_suc P indices (All-tail (λ i. P (suc i)) i indices h))

pub All-unmap_suc : (P : ℕ → Type 0) (indices : List ℕ) → All P (map suc indices) → All (λ i. P (suc i)) indices
All-unmap_suc P [] h = All-nil (λ i. P (suc i))
All-unmap_suc P (i ∷ indices) h =
    All-cons (λ i. P (suc i)) i indices (All-head P (suc i) (map suc indices) h) (All-unmap_suc P indices (All-tail P (suc i) (map suc indices) h))

pub rising-map_suc : (indices : List ℕ) → AllPairs (λ i j. i < j) indices → AllPairs (λ i j. i < j) (map suc indices)
rising-map_suc [] h = AllPairs-nil (λ i j. i < j)
rising-map_suc (i ∷ indices) h =
    AllPairs-cons (λ i j. i < j) (suc i) (map suc indices)
    (All-map_suc (λ j. suc i < j) indices (λ k d l. let m : i < get_or indices k d = AllPairs-head (λ i j. i < j) i indices h k d l in omega arith))
    (rising-map_suc indices (AllPairs-tail (λ i j. i < j) i indices h))

pub rising-unmap_suc : (indices : List ℕ) → AllPairs (λ i j. i < j) (map suc indices) → AllPairs (λ i j. i < j) indices
rising-unmap_suc [] h = AllPairs-nil (λ i j. i < j)
rising-unmap_suc (i ∷ indices) h =
    AllPairs-cons (λ i j. i < j) i indices
    (λ k d l. let m : suc i < suc (get_or indices k d) =
    All-unmap_suc (λ j. suc i < j) indices (AllPairs-head (λ i j. i < j) (suc i) (map suc indices) h) k d l in
    omega arith)
    (rising-unmap_suc indices (AllPairs-tail (λ i j. i < j) (suc i) (map suc indices) h))

-- numbers above 0 are each one more than some number
pub positive_indices : (indices : List ℕ) → All (λ i. 0 < i) indices → (lower : List ℕ) × (indices ≡ map suc lower)
positive_indices [] h = ([], refl)
positive_indices (zero ∷ indices) h = let l : 0 < 0 = All-head (λ i. 0 < i) zero indices h in absurd (omega arith)
positive_indices (suc i ∷ indices) h =
    let r = positive_indices indices (All-tail (λ i. 0 < i) (suc i) indices h) in
    (i ∷ r.0, ap (λ (p : List ℕ). suc i ∷ p) r.1)

-- a rising list of indices has the first index or not
pub rising_cases : (indices : List ℕ) → AllPairs (λ i j. i < j) indices → ((lower : List ℕ) × (indices ≡ map suc lower))
    ⊎ ((lower : List ℕ) × (indices ≡ 0 ∷ map suc lower))
rising_cases [] h = inl ([], refl)
rising_cases (zero ∷ indices) h =
    let r = positive_indices indices (AllPairs-head (λ i j. i < j) zero indices h) in
    inr (r.0, ap (λ (p : List ℕ). 0 ∷ p) r.1)
rising_cases (suc i ∷ indices) h =
    let r = positive_indices indices (λ k d l. let m : suc i < get_or indices k d = AllPairs-head (λ i j. i < j) (suc i) indices h k d l in omega arith) in
    inl (i ∷ r.0, ap (λ (p : List ℕ). suc i ∷ p) r.1)

-- ---- lists of lists of indices

pub AllPairs-append : {X : Type 0} (R : X → X → Type 0) (xs ys : List X) → AllPairs R xs → AllPairs R ys → All (λ x. All (R x) ys) xs → AllPairs R (xs ++ ys)
AllPairs-append R [] ys h k cross = k
AllPairs-append R (x ∷ xs) ys h k cross =
    AllPairs-cons R x (xs ++ ys)
    (All-append (R x) xs ys (AllPairs-head R x xs h) (All-head (λ x. All (R x) ys) x xs cross))
    (AllPairs-append R xs ys (AllPairs-tail R x xs h) k (All-tail (λ x. All (R x) ys) x xs cross))

pub AllPairs-map : {X Y : Type 0} (R : X → X → Type 0) (S : Y → Y → Type 0) (f : X → Y) → ((x y : X) → R x y → S (f x) (f y)) → (xs : List X) → AllPairs R xs
    → AllPairs S (map f xs)
AllPairs-map R S f step [] h = AllPairs-nil S
AllPairs-map R S f step (x ∷ xs) h =
    AllPairs-cons S (f x) (map f xs) (All-map (S (f x)) f xs (All-weaker (R x) (λ y. S (f x) (f y)) (step x) xs (AllPairs-head R x xs h)))
    (AllPairs-map R S f step xs (AllPairs-tail R x xs h))

pub Contains-map : {X Y : Type 0} (f : X → Y) (xs : List X) (x : X) → Contains xs x → Contains (map f xs) (f x)
Contains-map f [] x c = let l : c.0 < 0 = c.1 in absurd (omega arith)
Contains-map f (z ∷ xs) x c =
    ⊎_elim (λ (e : z ≡ x). (0, omega arith, ap f e)) (λ (d : Contains xs x). Contains-append_right (f z ∷ []) (map f xs) (f x) (Contains-map f xs x d))
    (Contains-cons_cases z xs x c)

pub Contains-unmap : {X Y : Type 0} (f : X → Y) (xs : List X) (y : Y) → Contains (map f xs) y → (x : X) × Contains xs x × (y ≡ f x)
Contains-unmap f [] y c = let l : c.0 < 0 = c.1 in absurd (omega arith)
Contains-unmap f (z ∷ xs) y c =
    ⊎_elim (λ (e : f z ≡ y). (z, (0, omega arith, refl), sym e))
    (λ (d : Contains (map f xs) y). let r = Contains-unmap f xs y d in (r.0, Contains-append_right (z ∷ []) xs r.0 r.1, r.2))
    (Contains-cons_cases (f z) (map f xs) y c)

pub unmap_suc : (indices : List ℕ) → map pred (map suc indices) ≡ indices
unmap_suc [] = refl
unmap_suc (i ∷ indices) = ap (λ (p : List ℕ). i ∷ p) (unmap_suc indices)

pub map_suc_different : (xs ys : List ℕ) → xs ≢ ys → map suc xs ≢ map suc ys
map_suc_different xs ys differ e = differ (sym (unmap_suc xs) ∙ ap (map pred) e ∙ unmap_suc ys)

pub first_different : (xs ys : List ℕ) → map suc xs ≢ 0 ∷ map suc ys
first_different [] ys e = cc
first_different (x ∷ xs) ys e = cc

-- ---- filters

-- what passes once it is seen
pub map-filter : {X Y : Type 0} (seen : X → Y) (p : Y → Bool) (xs : List X) → map seen (filter (λ x. p (seen x)) xs) ≡ filter p (map seen xs)
map-filter seen p [] = refl
map-filter {X} {Y} seen p (x ∷ xs) = search (rules, (map-filter seen p xs))

-- what passes among the first elements, with one more
pub filter_more-true : {X : Type 0} (p : X → Bool) (xs found more : List X) (i : ℕ) (d : X) → i < length xs → p (get_or xs i d) ≡ true
    → found ≡ filter p (take i xs) → more ≡ found ++ get_or xs i d ∷ [] → more ≡ filter p (take (i + 1) xs)
filter_more-true {X} p xs found more i d l t e m = grind (arith, common_steps, filter_more)

pub filter_more-false : {X : Type 0} (p : X → Bool) (xs found : List X) (i : ℕ) (d : X) → i < length xs → p (get_or xs i d) ≡ false
    → found ≡ filter p (take i xs) → found ≡ filter p (take (i + 1) xs)
filter_more-false {X} p xs found i d l t e = grind (arith, common_steps, append-nil, filter_more)
