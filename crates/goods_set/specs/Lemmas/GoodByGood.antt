-- A bundle is made of its rising list, good by good.
use Rattle.std.proofs.Common.{rules, ◌≡◌, ℕ, zero, suc, ◌+◌, ◌<◌, List, [], ◌∷◌, ◌++◌, length, get_or, take, refl, sym, ◌∙◌, arith}
use Rattle.std.proofs.lemmas.Bool.{ne_eqb, le-ltb}
use Rattle.std.proofs.lemmas.List.{take_more}
use Rattle.goods_set.specs.Bundles.{IsRising, AreAbove, AreBelow, with_good}

-- a good above those of the bundle goes to the end
with_good-last : (g : ℕ) (xs : List ℕ) → AreBelow g xs → with_good g xs ≡ xs ++ g ∷ []
with_good-last g [] b = refl
with_good-last g (x ∷ xs) b = search (rules, le-ltb, ne_eqb, (with_good-last g xs b.1))

-- in a rising list the goods before an index are below the good there
above_at : (x : ℕ) (xs : List ℕ) (i d : ℕ) → AreAbove x xs → i < length xs → x < get_or xs i d
above_at x [] i d a l = absurd (omega arith)
above_at x (y ∷ ys) zero d a l = a.0
above_at x (y ∷ ys) (suc i) d a l = above_at x ys i d a.1 (omega arith)

before_at : (xs : List ℕ) (i d : ℕ) → IsRising xs → i < length xs → AreBelow (get_or xs i d) (take i xs)
before_at [] i d r l = absurd (omega arith)
before_at (x ∷ xs) zero d r l = tt
before_at (x ∷ xs) (suc i) d r l = (above_at x xs i d r.0 (omega arith), before_at xs i d r.1 (omega arith))

-- one more good of a rising list is put
pub with_good-take : (xs : List ℕ) (i d : ℕ) → IsRising xs → i < length xs → with_good (get_or xs i d) (take i xs) ≡ take (i + 1) xs
with_good-take xs i d r l = with_good-last (get_or xs i d) (take i xs) (before_at xs i d r l) ∙ sym (take_more xs i d l)

pub below_at : (G : ℕ) (xs : List ℕ) (i d : ℕ) → AreBelow G xs → i < length xs → get_or xs i d < G
below_at G [] i d b l = absurd (omega arith)
below_at G (x ∷ xs) zero d b l = b.0
below_at G (x ∷ xs) (suc i) d b l = below_at G xs i d b.1 (omega arith)
