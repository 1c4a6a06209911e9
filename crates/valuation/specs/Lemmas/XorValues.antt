-- Lemmas on the XOR value: it is the least number that no atom inside the bundle exceeds. So it grows with the bundle, and does
-- not depend on the order of the atoms.
use Rattle.std.proofs.Common.{rules, ◌≡◌, ℕ, ◌≤◌, max, false, List, [], ◌∷◌, refl, arith, le_trans, le_refl, le_antisymm}
use Rattle.std.specs.Prelude.{IsPermutation}
use Rattle.std.proofs.lemmas.Bool.{cases_Bool}
use Rattle.std.proofs.lemmas.List.Sorted.{IsPermutation-sym}
use Rattle.goods_set.specs.Bundles.{is_inside, IsInside}
use Rattle.goods_set.specs.Lemmas.Members.{inside_trans}
use Rattle.valuation.specs.declared.atom.Atom.{Atom}
use Rattle.valuation.specs.Values.{xor_value}
use Rattle.valuation.specs.Lemmas.Permutations.{from_permutation}

-- one equation for each case
pub xor_value-nil : (bundle : List ℕ) → xor_value [] bundle ≡ 0
unfolding xor_value
xor_value-nil bundle = refl

pub xor_value-inside : (a : Atom (List ℕ)) (rest : List (Atom (List ℕ))) (bundle : List ℕ) → IsInside a.bundle bundle
    → xor_value (a ∷ rest) bundle ≡ max (xor_value rest bundle) a.price
unfolding xor_value
xor_value-inside a rest bundle i = simp i

pub xor_value-outside : (a : Atom (List ℕ)) (rest : List (Atom (List ℕ))) (bundle : List ℕ) → is_inside a.bundle bundle ≡ false
    → xor_value (a ∷ rest) bundle ≡ xor_value rest bundle
unfolding xor_value
xor_value-outside a rest bundle o = simp o (omega arith)

-- it is at least the value by the other atoms, and at least the price of each atom inside, and no greater than either makes it
pub xor_value-rest : (a : Atom (List ℕ)) (rest : List (Atom (List ℕ))) (bundle : List ℕ) → xor_value rest bundle ≤ xor_value (a ∷ rest) bundle
xor_value-rest a rest bundle = search (rules, xor_value-inside, xor_value-outside, cases_Bool)

pub xor_value-price : (a : Atom (List ℕ)) (rest : List (Atom (List ℕ))) (bundle : List ℕ) → IsInside a.bundle bundle → a.price ≤ xor_value (a ∷ rest) bundle
xor_value-price a rest bundle i = omega (arith, xor_value-inside a rest bundle i)

pub xor_value-least : (a : Atom (List ℕ)) (rest : List (Atom (List ℕ))) (bundle : List ℕ) (n : ℕ) → xor_value rest bundle ≤ n
    → (IsInside a.bundle bundle → a.price ≤ n) → xor_value (a ∷ rest) bundle ≤ n
xor_value-least a rest bundle n r p = search (rules, xor_value-inside, xor_value-outside, cases_Bool)

-- it grows with the bundle
pub xor_value-grows : (atoms : List (Atom (List ℕ))) (small large : List ℕ) → IsInside small large → xor_value atoms small ≤ xor_value atoms large
xor_value-grows [] small large i = omega (arith, xor_value-nil small)
xor_value-grows (a ∷ rest) small large i = search (rules, xor_value-least, xor_value-rest, xor_value-price, inside_trans, (xor_value-grows rest small large i))

-- it does not depend on the order of the atoms
xor_value-prefix : (a : Atom (List ℕ)) (xs ys : List (Atom (List ℕ))) → ((bundle : List ℕ) → xor_value xs bundle ≤ xor_value ys bundle) → (bundle : List ℕ)
    → xor_value (a ∷ xs) bundle ≤ xor_value (a ∷ ys) bundle
xor_value-prefix a xs ys h bundle = search (rules, xor_value-least, xor_value-rest, xor_value-price)

xor_value-exchange : (a b : Atom (List ℕ)) (rest : List (Atom (List ℕ))) (bundle : List ℕ) → xor_value (a ∷ b ∷ rest) bundle ≤ xor_value (b ∷ a ∷ rest) bundle
xor_value-exchange a b rest bundle = xor_value-least a (b ∷ rest) bundle _ (search (rules, xor_value-least, xor_value-rest, xor_value-price))
    (search (rules, xor_value-price, xor_value-rest))

xor_value-at_most : (xs ys : List (Atom (List ℕ))) → IsPermutation xs ys → (bundle : List ℕ) → xor_value xs bundle ≤ xor_value ys bundle
xor_value-at_most =
    from_permutation (λ xs ys. (bundle : List ℕ) → xor_value xs bundle ≤ xor_value ys bundle) (λ xs bundle. le_refl _)
    (λ xs ys zs h k bundle. le_trans (h bundle) (k bundle)) xor_value-prefix xor_value-exchange

pub xor_value-permutation : (xs ys : List (Atom (List ℕ))) → IsPermutation xs ys → (bundle : List ℕ) → xor_value xs bundle ≡ xor_value ys bundle
xor_value-permutation xs ys p bundle = le_antisymm (xor_value-at_most xs ys p bundle) (xor_value-at_most ys xs (IsPermutation-sym xs ys p) bundle)
