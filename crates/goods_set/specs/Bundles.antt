-- Bundles of goods. After Nisan ("Bidding and allocation in combinatorial auctions", 2000), a bundle over G goods is a
-- strictly rising list of numbers below G. Inside, apart and without are those of sets.
use Rattle.std.specs.Prelude.{ℕ, ◌<◌, zero, suc, ◌+◌, ◌==◌, nat_lt, nat_le, Bool, not, IsTrue, cond, List, [], ◌∷◌}
use Rattle.std.specs.Prelude.{◌++◌, map, Option}
use Rattle.std.specs.List.{AllByRecursion, list_any, list_all, filter, find, flat_map, range_with_len}

-- each member of the list is above g
abbrev pub AreAbove : ℕ → List ℕ → Type 0
AreAbove g xs = AllByRecursion (λ x. g < x) xs

-- each good of xs is below g
abbrev pub AreBelow : ℕ → List ℕ → Type 0
AreBelow g xs = AllByRecursion (λ x. x < g) xs

-- the list rises strictly
abbrev pub IsRising : List ℕ → Type 0
IsRising [] = Unit {0}
IsRising (x ∷ xs) = AreAbove x xs × IsRising xs

-- xs is a bundle over G goods: it rises, each good below G
abbrev pub IsBundle : ℕ → List ℕ → Type 0
IsBundle G xs = IsRising xs × AreBelow G xs

-- whether the good g is in xs
abbrev pub has_good : List ℕ → ℕ → Bool
has_good xs g = list_any (λ x. x == g) xs

-- whether xs is a subset of ys
abbrev pub is_inside : List ℕ → List ℕ → Bool
is_inside xs ys = list_all (λ g. has_good ys g) xs

-- whether xs and ys share no good
abbrev pub are_apart : List ℕ → List ℕ → Bool
are_apart xs ys = list_all (λ g. not (has_good ys g)) xs

-- xs is a subset of ys
abbrev pub IsInside : List ℕ → List ℕ → Type 0
IsInside xs ys = IsTrue (is_inside xs ys)

-- xs and ys share no good
abbrev pub AreApart : List ℕ → List ℕ → Type 0
AreApart xs ys = IsTrue (are_apart xs ys)

-- xs without the goods of ys
abbrev pub without : List ℕ → List ℕ → List ℕ
without xs ys = filter (λ g. not (has_good ys g)) xs

-- a bundle with one good added
abbrev pub with_good : ℕ → List ℕ → List ℕ
with_good g [] = g ∷ []
with_good g (x ∷ xs) = cond (nat_lt g x) (g ∷ (x ∷ xs)) (cond (g == x) (x ∷ xs) (x ∷ with_good g xs))

-- the least good of the bundle xs from g on
abbrev pub good_from : List ℕ → ℕ → Option ℕ
good_from xs g = find (λ x. nat_le g x) xs

-- the rising lists of `size` numbers out of the n numbers from g on, in lexicographic order
abbrev pub bundles_from : (n : ℕ) → ℕ → ℕ → List (List ℕ)
bundles_from n g zero = [] ∷ []
bundles_from zero g (suc size) = []
bundles_from (suc n) g (suc size) = map (λ xs. g ∷ xs) (bundles_from n (g + 1) size) ++ bundles_from n (g + 1)
    (suc size)

-- every bundle over G goods, once, in order
abbrev pub all_bundles : ℕ → List (List ℕ)
all_bundles G = flat_map (λ size. bundles_from G 0 size) (range_with_len 0 (G + 1))
