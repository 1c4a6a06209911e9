-- Numbers that are named one after the other, each added unless it is there, are those of the whole list, each once.
use Rattle.command_line.proofs.Common.{◌≡◌, ◌∙◌, ◌++◌, ◌==◌, ◌&&◌, ℕ, Bool, true, false, not, List, [], ◌∷◌, Option, None, Some, ap, sym, refl, arith}
use Rattle.command_line.proofs.Common.{append-nil, append_assoc, filter, list_any-append, nat_tests, option_map, firsts, is_among, with_all, AreMarked}
use Rattle.command_line.proofs.Common.{get_or-replicate, length-replicate, replicate}

filter_twice : (p q r : ℕ → Bool) → ((x : ℕ) → (p x && q x) ≡ r x) → (xs : List ℕ) → filter p (filter q xs) ≡ filter r xs
filter_twice p q r same [] = refl
filter_twice p q r same (x ∷ xs) = go (q x) (p x) refl refl (same x) (filter_twice p q r same xs)
  where
    go : (second first : Bool) → q x ≡ second → p x ≡ first → (p x && q x) ≡ r x → filter p (filter q xs) ≡ filter r xs
        → filter p (filter q (x ∷ xs)) ≡ filter r (x ∷ xs)
    go true true second first is rest = rw (← is, second, first) (ap (λ ys. x ∷ ys) rest)
    go true false second first is rest = rw (← is, second, first) rest
    go false true second first is rest = rw (← is, second, first) rest
    go false false second first is rest = rw (← is, second, first) rest

-- at first there are no numbers
pub none_marked : (numbers : List ℕ) → numbers ≡ [] → AreMarked numbers (replicate 65536 false)
none_marked numbers none = record {
  all = length-replicate 65536 false;
  each = λ n below. rw none (get_or-replicate 65536 n false false below);
}

-- not among the numbers
abbrev is_new : List ℕ → ℕ → Bool
is_new numbers n = not (is_among numbers n)

among_once : (numbers : List ℕ) (n x : ℕ) → is_among numbers n ≡ true → (is_new numbers x && not (x == n)) ≡ is_new numbers x
among_once numbers n x among = go (x == n) refl
  where
    go : (same : Bool) → (x == n) ≡ same → (is_new numbers x && not (x == n)) ≡ is_new numbers x
    go true same = let is : x ≡ n = grind (arith, nat_tests) in rw (is, among) refl
    go false same = grind (arith, nat_tests)

among_more : (numbers : List ℕ) (n x : ℕ) → (is_new numbers x && not (x == n)) ≡ is_new (numbers ++ n ∷ []) x
among_more numbers n x = rw (list_any-append (λ m. m == x) numbers (n ∷ [])) (grind (arith, nat_tests))

-- behind the numbers come those of the others that are not among them
with_all-firsts : (numbers more : List ℕ) → with_all numbers more ≡ numbers ++ filter (is_new numbers) (firsts more)
with_all-firsts numbers [] = sym (append-nil numbers)
with_all-firsts numbers (n ∷ more) = go (is_among numbers n) refl (with_all-firsts numbers more) (with_all-firsts (numbers ++ n ∷ []) more)
  where
    go : (among : Bool) → is_among numbers n ≡ among → with_all numbers more ≡ numbers ++ filter (is_new numbers) (firsts more)
        → with_all (numbers ++ n ∷ []) more ≡ (numbers ++ n ∷ []) ++ filter (is_new (numbers ++ n ∷ [])) (firsts more)
        → with_all numbers (n ∷ more) ≡ numbers ++ filter (is_new numbers) (firsts (n ∷ more))
    go true among old new =
        let same = filter_twice (is_new numbers) (λ x. not (x == n)) (is_new numbers) (λ x. among_once numbers n x among) (firsts more) in
        rw (among, same) old
    go false among old new =
        let same = filter_twice (is_new numbers) (λ x. not (x == n)) (is_new (numbers ++ n ∷ [])) (λ x. among_more numbers n x) (firsts more) in
        rw (among, same) (new ∙ append_assoc numbers (n ∷ []) _)

filter_all : (xs : List ℕ) → filter (λ x. true) xs ≡ xs
filter_all [] = refl
filter_all (x ∷ xs) = ap (λ ys. x ∷ ys) (filter_all xs)

pub firsts_found : (found : Option (List ℕ)) → option_map firsts found ≡ option_map (with_all []) found
firsts_found None = refl
firsts_found (Some numbers) = ap Some (sym (with_all-firsts [] numbers ∙ filter_all (firsts numbers)))
