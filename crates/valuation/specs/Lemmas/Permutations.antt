-- What a list and its permutation share. A relation that every list has to itself, that two steps join, and that goes through one
-- more element at the start and an exchange of the first two, a list has to each of its permutations.
use Rattle.std.proofs.Common.{ℕ, zero, suc, ◌<◌, List, [], ◌∷◌, length, get_or, set, arith}
use Rattle.std.specs.Prelude.{IsPermutation, swap}
use Rattle.std.proofs.lemmas.List.Sorted.{IsPermutation-keeps}

module _ {X : Type 0} (R : List X → List X → Type 0)
    (same : (xs : List X) → R xs xs)
    (join : (xs ys zs : List X) → R xs ys → R ys zs → R xs zs)
    (prefix : (x : X) (xs ys : List X) → R xs ys → R (x ∷ xs) (x ∷ ys))
    (exchange : (x y : X) (xs : List X) → R (x ∷ y ∷ xs) (y ∷ x ∷ xs))
  where
    -- the first element and one behind it are exchanged
    with_first : (x : X) (xs : List X) (j : ℕ) (d : X) → j < length xs → R (x ∷ xs) (get_or xs j d ∷ set xs j x)
    with_first x [] j d l = absurd (omega arith)
    with_first x (z ∷ zs) zero d l = exchange x z zs
    with_first x (z ∷ zs) (suc j) d l =
        let lower : j < length zs = omega arith in
        join _ _ _ (exchange x z zs) (join _ _ _ (prefix z _ _ (with_first x zs j d lower)) (exchange z (get_or zs j d) (set zs j x)))

    -- two elements are exchanged
    exchanged : (xs : List X) (i j : ℕ) (d : X) → i < length xs → j < length xs → R xs (set (set xs i (get_or xs j d)) j (get_or xs i d))
    exchanged [] i j d l m = absurd (omega arith)
    exchanged (x ∷ xs) zero zero d l m = same (x ∷ xs)
    exchanged (x ∷ xs) zero (suc j) d l m = let lower : j < length xs = omega arith in with_first x xs j d lower
    exchanged (x ∷ xs) (suc i) zero d l m = let lower : i < length xs = omega arith in with_first x xs i d lower
    exchanged (x ∷ xs) (suc i) (suc j) d l m =
        let left : i < length xs = omega arith in
        let right : j < length xs = omega arith in
        prefix x _ _ (exchanged xs i j d left right)

    swapped : (xs : List X) (i j : ℕ) → i < length xs → j < length xs → R xs (swap xs i j)
    swapped [] i j l m = absurd (omega arith)
    swapped (x ∷ xs) i j l m = exchanged (x ∷ xs) i j x l m

    pub from_permutation : (xs ys : List X) → IsPermutation xs ys → R xs ys
    from_permutation xs = IsPermutation-keeps xs (R xs) (same xs) (λ l i j p q h. join _ _ _ h (swapped l i j p q))
