-- Lemmas on the indices of a list, which are the numbers from 0 on.
use Rattle.std.proofs.Common.{rules, ◌≡◌, ℕ, zero, suc, ◌+◌, ◌<◌, Bool, true, false, [], ◌∷◌, ◌++◌, get_or, ap, arith, Some, None}
use Rattle.std.specs.Prelude.{AllPairs, Contains}
use Rattle.std.specs.List.{find, range_with_len}
use Rattle.std.proofs.lemmas.List.FromFn.{get_or-range_with_len, length-range_with_len}
use Rattle.prune.specs.Lemmas.Lists.{find_first, find_none}

pub range_more : (a n : ℕ) → range_with_len a (n + 1) ≡ range_with_len a n ++ (a + n) ∷ []
range_more a zero = let e : a ≡ a + 0 = omega arith in ap (λ m. m ∷ []) e
range_more a (suc n) = search (rules, (range_more (a + 1) n))

pub range_rising : (a n : ℕ) → AllPairs (λ i j. i < j) (range_with_len a n)
range_rising a n i j d l within = search (rules, length-range_with_len, get_or-range_with_len)

pub in_range : (n k : ℕ) → Contains (range_with_len 0 n) k → k < n
in_range n k c = search (rules, length-range_with_len, get_or-range_with_len)

pub range_contains : (n k : ℕ) → k < n → Contains (range_with_len 0 n) k
range_contains n k l =
    let at : get_or (range_with_len 0 n) k k ≡ 0 + k = get_or-range_with_len 0 n k k l in
    search (rules, length-range_with_len)

-- the first number below n that passes
pub first_in_range : (p : ℕ → Bool) (n first : ℕ) → first < n → p first ≡ true → ((k : ℕ) → k < first → p k ≡ false) → find p (range_with_len 0 n) ≡ Some first
first_in_range p n first l t before = find_first (λ i j. i < j) p (range_with_len 0 n) (range_rising 0 n) first (range_contains n first l) t before

pub none_in_range : (p : ℕ → Bool) (n : ℕ) → ((k : ℕ) → k < n → p k ≡ false) → find p (range_with_len 0 n) ≡ None
none_in_range p n none = find_none p (range_with_len 0 n) (λ k c. none k (in_range n k c))
