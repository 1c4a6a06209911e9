-- Lemmas on values: of lists of which one dominates the other, and of the atoms of a list that matter for a bundle.
use Rattle.std.proofs.Common.{rules, ◌≡◌, ℕ, ◌<◌, ◌≤◌, max, Bool, true, false, ◌⊎◌, inl, inr, ⊎_elim, List, [], ◌∷◌, ◌++◌, length, sym, ◌∙◌, arith}
use Rattle.std.proofs.Common.{le_trans, le_refl, le_antisymm}
use Rattle.std.specs.Prelude.{All, Contains}
use Rattle.std.specs.List.{filter}
use Rattle.std.proofs.lemmas.Bool.{cases_Bool}
use Rattle.std.proofs.lemmas.List.Elements.{All-head, All-tail, All-contains, Contains-append_left}
use Rattle.goods_set.specs.Bundles.{is_inside, IsInside, without}
use Rattle.goods_set.specs.Lemmas.Members.{inside_trans, without_inside}
use Rattle.valuation.specs.declared.atom.Atom.{Atom}
use Rattle.valuation.specs.Values.{xor_value, or_value}
use Rattle.valuation.specs.Lemmas.Lists.{Contains-cons_cases}
use Rattle.valuation.specs.Lemmas.XorValues.{xor_value-nil, xor_value-inside, xor_value-outside, xor_value-rest, xor_value-price, xor_value-least}
use Rattle.valuation.specs.Lemmas.XorValues.{xor_value-grows}
use Rattle.valuation.specs.Lemmas.OrValues.{or_value-nil, or_value-rest, or_value-taken, or_value-least, or_value-split, or_value-filter_le}
use Rattle.prune.specs.Lemmas.Lists.{Contains-nil, Contains-head, Contains-tail, All-from_Contains, filter-kept, Contains-filter, Contains-filter_parts}

-- ---- XOR

pub xor_value-member : (atoms : List (Atom (List ℕ))) (a : Atom (List ℕ)) → Contains atoms a → (bundle : List ℕ) → IsInside a.bundle bundle
    → a.price ≤ xor_value atoms bundle
xor_value-member [] a c bundle i = absurd (Contains-nil a c)
xor_value-member (b ∷ rest) a c bundle i = ⊎_elim (search (rules, xor_value-price))
    (λ (d : Contains rest a). le_trans (xor_value-member rest a d bundle i) (xor_value-rest b rest bundle)) (Contains-cons_cases b rest a c)

pub xor_value-bound : (atoms : List (Atom (List ℕ))) (bundle : List ℕ) (n : ℕ) → All (λ a. IsInside a.bundle bundle → a.price ≤ n) atoms
    → xor_value atoms bundle ≤ n
xor_value-bound [] bundle n h = omega (arith, xor_value-nil bundle)
xor_value-bound (a ∷ rest) bundle n h =
    search (rules, xor_value-least, All-tail, All-head, (xor_value-bound rest bundle n (All-tail (λ a. IsInside a.bundle bundle → a.price ≤ n) a rest h)))

-- values grow with the list
pub xor_value-more : (atoms : List (Atom (List ℕ))) (a : Atom (List ℕ)) (bundle : List ℕ) → xor_value atoms bundle ≤ xor_value (atoms ++ a ∷ []) bundle
xor_value-more atoms a bundle =
    xor_value-bound atoms bundle (xor_value (atoms ++ a ∷ []) bundle) (search (rules, All-from_Contains, xor_value-member, Contains-append_left))

pub xor_value-fewer : (p : Atom (List ℕ) → Bool) (atoms : List (Atom (List ℕ))) (bundle : List ℕ) → xor_value (filter p atoms) bundle ≤ xor_value atoms bundle
xor_value-fewer p atoms bundle =
    xor_value-bound (filter p atoms) bundle (xor_value atoms bundle) (All-from_Contains (λ b. IsInside b.bundle bundle → b.price ≤ xor_value atoms bundle)
    (filter p atoms) (λ b c i. xor_value-member atoms b (Contains-filter_parts p atoms b c).0 bundle i))

-- if each atom is dominated on its own bundle by another list, so is each value
pub xor_value-dominated : (other atoms : List (Atom (List ℕ))) → All (λ a. a.price ≤ xor_value other a.bundle) atoms → (bundle : List ℕ)
    → xor_value atoms bundle ≤ xor_value other bundle
xor_value-dominated other atoms h bundle = search (rules, xor_value-bound, All-from_Contains, All-contains, xor_value-grows)

-- a value above 0 is the price of an atom inside the bundle
pub xor_value-reached : (atoms : List (Atom (List ℕ))) (bundle : List ℕ) → 0 < xor_value atoms bundle → (a : Atom (List ℕ)) × Contains atoms a
    × IsInside a.bundle bundle × (a.price ≡ xor_value atoms bundle)
xor_value-reached [] bundle l = let e = xor_value-nil bundle in absurd (omega arith)
xor_value-reached (b ∷ rest) bundle l = ⊎_elim (inside_case (xor_value-reached rest bundle)) (outside_case (xor_value-reached rest bundle))
    (cases_Bool (is_inside b.bundle bundle))
  where
    later : (0 < xor_value rest bundle → (a : Atom (List ℕ)) × Contains rest a × IsInside a.bundle bundle × (a.price ≡ xor_value rest bundle))
        → xor_value (b ∷ rest) bundle ≡ xor_value rest bundle → (a : Atom (List ℕ)) × Contains (b ∷ rest) a × IsInside a.bundle bundle
        × (a.price ≡ xor_value (b ∷ rest) bundle)
    later h e = let r = h (omega arith) in (r.0, Contains-tail b rest r.0 r.1, r.2, r.3 ∙ sym e)

    inside_case : (0 < xor_value rest bundle → (a : Atom (List ℕ)) × Contains rest a × IsInside a.bundle bundle × (a.price ≡ xor_value rest bundle))
        → is_inside b.bundle bundle ≡ true → (a : Atom (List ℕ)) × Contains (b ∷ rest) a × IsInside a.bundle bundle × (a.price ≡ xor_value (b ∷ rest) bundle)
    inside_case h i =
        let e = xor_value-inside b rest bundle i in
        elim (max_cases (xor_value rest bundle) b.price) [
          | inl q ↦ later h (e ∙ q)
          | inr q ↦ (b, Contains-head b rest, i, sym (e ∙ q))
        ]
      where
        max_cases : (m n : ℕ) → (max m n ≡ m) ⊎ (max m n ≡ n)
        max_cases m n = ⊎_elim (λ (q : m ≤ n). inr (omega arith)) (λ (q : n ≤ m). inl (omega arith)) (le_cases m n)
          where
            le_cases : (m n : ℕ) → (m ≤ n) ⊎ (n ≤ m)
            le_cases m n = grind arith

    outside_case : (0 < xor_value rest bundle → (a : Atom (List ℕ)) × Contains rest a × IsInside a.bundle bundle × (a.price ≡ xor_value rest bundle))
        → is_inside b.bundle bundle ≡ false → (a : Atom (List ℕ)) × Contains (b ∷ rest) a × IsInside a.bundle bundle × (a.price ≡ xor_value (b ∷ rest) bundle)
    outside_case h o = later h (xor_value-outside b rest bundle o)

-- only the atoms inside the bundle matter
pub xor_value-filter_on : (p : Atom (List ℕ) → Bool) (atoms : List (Atom (List ℕ))) (bundle : List ℕ) → All (λ a. IsInside a.bundle bundle → p a ≡ true) atoms
    → xor_value (filter p atoms) bundle ≡ xor_value atoms bundle
xor_value-filter_on p atoms bundle h =
    le_antisymm
    (xor_value-bound (filter p atoms) bundle (xor_value atoms bundle) (All-from_Contains (λ a. IsInside a.bundle bundle → a.price ≤ xor_value atoms bundle)
    (filter p atoms) (λ a c i. xor_value-member atoms a (Contains-filter_parts p atoms a c).0 bundle i)))
    (xor_value-bound atoms bundle (xor_value (filter p atoms) bundle) (All-from_Contains (λ a. IsInside a.bundle bundle
    → a.price ≤ xor_value (filter p atoms) bundle) atoms
    (λ a c i. xor_value-member (filter p atoms) a (Contains-filter p atoms a c (All-contains (λ a. IsInside a.bundle bundle → p a ≡ true) atoms a h c i))
    bundle i)))

-- ---- OR

pub or_value-more : (atoms : List (Atom (List ℕ))) (a : Atom (List ℕ)) (bundle : List ℕ) → or_value atoms bundle ≤ or_value (atoms ++ a ∷ []) bundle
or_value-more [] a bundle = omega (arith, or_value-nil bundle)
or_value-more (b ∷ rest) a bundle = search (
  rules,
  or_value-least,
  or_value-rest,
  or_value-taken,
  (or_value-more rest a bundle),
  (or_value-more rest a (without bundle b.bundle)),
)

-- if each atom is dominated on its own bundle by another list, so is each value
pub or_value-dominated : (other : List (Atom (List ℕ))) → All (λ a. 0 < length a.bundle) other → (atoms : List (Atom (List ℕ)))
    → All (λ a. a.price ≤ or_value other a.bundle) atoms → (bundle : List ℕ) → or_value atoms bundle ≤ or_value other bundle
or_value-dominated other some [] h bundle = omega (arith, or_value-nil bundle)
or_value-dominated other some (a ∷ rest) h bundle =
    let more = All-tail (λ a. a.price ≤ or_value other a.bundle) a rest h in
    let first = or_value-dominated other some rest more bundle in
    let second = or_value-dominated other some rest more (without bundle a.bundle) in
    search (rules, All-head, or_value-least, or_value-split, first, second)

-- only the atoms inside the bundle matter
enough_on : (p : Atom (List ℕ) → Bool) (atoms : List (Atom (List ℕ))) (bundle : List ℕ) → All (λ a. IsInside a.bundle bundle → p a ≡ true) atoms
    → or_value atoms bundle ≤ or_value (filter p atoms) bundle
enough_on p [] bundle h = le_refl _
enough_on p (a ∷ rest) bundle h =
    let more = All-tail (λ a. IsInside a.bundle bundle → p a ≡ true) a rest h in
    let first = enough_on p rest bundle more in
    let second = enough_on p rest (without bundle a.bundle)
    (λ k d l j. more k d l (inside_trans _ (without bundle a.bundle) bundle j (without_inside bundle a.bundle))) in
    search (rules, All-head, or_value-least, or_value-rest, or_value-taken, inside_trans, without_inside, filter-kept, first, second)

pub or_value-filter_on : (p : Atom (List ℕ) → Bool) (atoms : List (Atom (List ℕ))) (bundle : List ℕ) → All (λ a. IsInside a.bundle bundle → p a ≡ true) atoms
    → or_value (filter p atoms) bundle ≡ or_value atoms bundle
or_value-filter_on p atoms bundle h = le_antisymm (or_value-filter_le p atoms bundle) (enough_on p atoms bundle h)
