-- Lemmas on the goods of a list: what is inside, apart, left, put, and when two rising lists are equal. The idea of most of
-- them: a rising list is what it has, so that sets are compared good by good.
use Rattle.std.proofs.Common.{rules, ◌≡◌, ℕ, ◌<◌, ◌≤◌, Bool, true, false, not, ◌&&◌, eqb, ◌⊎◌, inl, inr, ⊎_elim, List, [], ◌∷◌, refl, sym, ap, ap₂, ◌∙◌}
use Rattle.std.proofs.Common.{subst, arith}
use Rattle.std.proofs.lemmas.Bool.{and_parts, and_from, or_cases, or_left, or_right, both_ways, not-true, not_from_false, cases_Bool, false_from_ne_true}
use Rattle.std.proofs.lemmas.Bool.{eqb-true, eqb-false, eq-eqb, ne_eqb}
use Rattle.std.specs.List.{filter}
use Rattle.goods_set.specs.Bundles.{AreAbove, AreBelow, IsRising, IsBundle, IsInside, AreApart, has_good, is_inside, are_apart, without}

-- ---- has

pub has_head : (x : ℕ) (xs : List ℕ) → has_good (x ∷ xs) x ≡ true
has_head x xs = or_left (eqb x x) (has_good xs x) (eq-eqb x x refl)

pub has_tail : (x : ℕ) (xs : List ℕ) (g : ℕ) → has_good xs g ≡ true → has_good (x ∷ xs) g ≡ true
has_tail x xs g h = or_right (eqb x g) (has_good xs g) h

pub has_cases : (x : ℕ) (xs : List ℕ) (g : ℕ) → has_good (x ∷ xs) g ≡ true → (x ≡ g) ⊎ (has_good xs g ≡ true)
has_cases x xs g h = ⊎_elim (λ (e : eqb x g ≡ true). inl (eqb-true x g e)) (λ (e : has_good xs g ≡ true). inr e) (or_cases (eqb x g) (has_good xs g) h)

pub has_above : (x : ℕ) (xs : List ℕ) (g : ℕ) → AreAbove x xs → has_good xs g ≡ true → x < g
has_above x [] g a h = absurd (both_ways false refl h)
has_above x (y ∷ ys) g a h = ⊎_elim (λ (e : y ≡ g). subst (λ n. x < n) e a.0) (λ (k : has_good ys g ≡ true). has_above x ys g a.1 k) (has_cases y ys g h)

pub has_below : (G : ℕ) (xs : List ℕ) (g : ℕ) → AreBelow G xs → has_good xs g ≡ true → g < G
has_below G [] g a h = absurd (both_ways false refl h)
has_below G (y ∷ ys) g a h = ⊎_elim (λ (e : y ≡ g). subst (λ n. n < G) e a.0) (λ (k : has_good ys g ≡ true). has_below G ys g a.1 k) (has_cases y ys g h)

pub AreAbove-from_has : (x : ℕ) (xs : List ℕ) → ((g : ℕ) → has_good xs g ≡ true → x < g) → AreAbove x xs
AreAbove-from_has x [] h = tt
AreAbove-from_has x (y ∷ ys) h = (h y (has_head y ys), AreAbove-from_has x ys (λ g k. h g (has_tail y ys g k)))

pub AreBelow-from_has : (G : ℕ) (xs : List ℕ) → ((g : ℕ) → has_good xs g ≡ true → g < G) → AreBelow G xs
AreBelow-from_has G [] h = tt
AreBelow-from_has G (y ∷ ys) h = (h y (has_head y ys), AreBelow-from_has G ys (λ g k. h g (has_tail y ys g k)))

pub AreAbove-lower : (x y : ℕ) (xs : List ℕ) → x ≤ y → AreAbove y xs → AreAbove x xs
AreAbove-lower x y [] l a = tt
AreAbove-lower x y (z ∷ zs) l a = let b : y < z = a.0 in (omega arith, AreAbove-lower x y zs l a.1)

pub AreBelow-higher : (G H : ℕ) (xs : List ℕ) → G ≤ H → AreBelow G xs → AreBelow H xs
AreBelow-higher G H [] l a = tt
AreBelow-higher G H (z ∷ zs) l a = let b : z < G = a.0 in (omega arith, AreBelow-higher G H zs l a.1)

-- the first good of a rising list is not among the others
pub has_not_head : (x : ℕ) (xs : List ℕ) → AreAbove x xs → has_good xs x ≡ false
has_not_head x xs a = false_from_ne_true (has_good xs x) (λ h. let l : x < x = has_above x xs x a h in omega arith)

-- ---- two rising lists with the same goods are equal

pub same_from_has : (xs ys : List ℕ) → IsRising xs → IsRising ys → ((g : ℕ) → has_good xs g ≡ true → has_good ys g ≡ true)
    → ((g : ℕ) → has_good ys g ≡ true → has_good xs g ≡ true) → xs ≡ ys
same_from_has [] [] r s h k = refl
same_from_has [] (y ∷ ys) r s h k = absurd (both_ways false refl (k y (has_head y ys)))
same_from_has (x ∷ xs) [] r s h k = absurd (both_ways false refl (h x (has_head x xs)))
same_from_has (x ∷ xs) (y ∷ ys) r s h k =
    let e : x ≡ y = heads (has_cases y ys x (h x (has_head x xs))) (has_cases x xs y (k y (has_head y ys))) in
    ap₂ (λ (z : ℕ) (zs : List ℕ). z ∷ zs) e (same_from_has xs ys r.1 s.1 (λ g m. later g m e) (λ g m. back g m e))
  where
    heads : (y ≡ x) ⊎ (has_good ys x ≡ true) → (x ≡ y) ⊎ (has_good xs y ≡ true) → x ≡ y
    heads (inl e) q = sym e
    heads (inr a) (inl e) = e
    heads (inr a) (inr b) = let l : y < x = has_above y ys x s.0 a in let m : x < y = has_above x xs y r.0 b in omega arith

    later : (g : ℕ) → has_good xs g ≡ true → x ≡ y → has_good ys g ≡ true
    later g m e = ⊎_elim (λ (d : y ≡ g). let l : x < g = has_above x xs g r.0 m in absurd (omega arith)) (λ (d : has_good ys g ≡ true). d)
        (has_cases y ys g (h g (has_tail x xs g m)))

    back : (g : ℕ) → has_good ys g ≡ true → x ≡ y → has_good xs g ≡ true
    back g m e = ⊎_elim (λ (d : x ≡ g). let l : y < g = has_above y ys g s.0 m in absurd (omega arith)) (λ (d : has_good xs g ≡ true). d)
        (has_cases x xs g (k g (has_tail y ys g m)))

-- ---- inside

pub inside_at : (xs ys : List ℕ) (g : ℕ) → IsInside xs ys → has_good xs g ≡ true → has_good ys g ≡ true
inside_at [] ys g i h = absurd (both_ways false refl h)
inside_at (x ∷ xs) ys g i h =
    let p : (has_good ys x ≡ true) × (is_inside xs ys ≡ true) = and_parts (has_good ys x) (is_inside xs ys) i in
    ⊎_elim (λ (e : x ≡ g). subst (λ n. has_good ys n ≡ true) e p.0) (λ (k : has_good xs g ≡ true). inside_at xs ys g p.1 k) (has_cases x xs g h)

pub inside_from : (xs ys : List ℕ) → ((g : ℕ) → has_good xs g ≡ true → has_good ys g ≡ true) → IsInside xs ys
inside_from [] ys h = refl
inside_from (x ∷ xs) ys h = and_from (has_good ys x) (is_inside xs ys) (h x (has_head x xs)) (inside_from xs ys (λ g k. h g (has_tail x xs g k)))

pub inside_refl : (xs : List ℕ) → IsInside xs xs
inside_refl xs = inside_from xs xs (λ g h. h)

pub inside_trans : (xs ys zs : List ℕ) → IsInside xs ys → IsInside ys zs → IsInside xs zs
inside_trans xs ys zs i j = inside_from xs zs (λ g h. inside_at ys zs g j (inside_at xs ys g i h))

pub inside_antisymm : (xs ys : List ℕ) → IsRising xs → IsRising ys → IsInside xs ys → IsInside ys xs → xs ≡ ys
inside_antisymm xs ys r s i j = same_from_has xs ys r s (λ g h. inside_at xs ys g i h) (λ g h. inside_at ys xs g j h)

-- ---- apart

pub apart_at : (xs ys : List ℕ) (g : ℕ) → AreApart xs ys → has_good xs g ≡ true → has_good ys g ≡ false
apart_at [] ys g i h = absurd (both_ways false refl h)
apart_at (x ∷ xs) ys g i h =
    let p : (not (has_good ys x) ≡ true) × (are_apart xs ys ≡ true) = and_parts (not (has_good ys x)) (are_apart xs ys) i in
    ⊎_elim (λ (e : x ≡ g). subst (λ n. has_good ys n ≡ false) e (not-true (has_good ys x) p.0)) (λ (k : has_good xs g ≡ true). apart_at xs ys g p.1 k)
    (has_cases x xs g h)

pub apart_from : (xs ys : List ℕ) → ((g : ℕ) → has_good xs g ≡ true → has_good ys g ≡ false) → AreApart xs ys
apart_from [] ys h = refl
apart_from (x ∷ xs) ys h = search (rules, and_from, not_from_false, has_head, (apart_from xs ys (λ g k. h g (has_tail x xs g k))))

pub apart_sym : (xs ys : List ℕ) → AreApart xs ys → AreApart ys xs
apart_sym xs ys a = apart_from ys xs (λ g h. false_from_ne_true (has_good xs g) (λ k. both_ways (has_good ys g) (apart_at xs ys g a k) h))

pub apart_inside : (xs ys zs : List ℕ) → IsInside xs ys → AreApart ys zs → AreApart xs zs
apart_inside xs ys zs i a = apart_from xs zs (λ g h. apart_at ys zs g a (inside_at xs ys g i h))

-- a bundle with a good is not apart from one inside which it is
pub apart_inside_none : (xs ys : List ℕ) → IsInside xs ys → AreApart xs ys → xs ≡ []
apart_inside_none [] ys i a = refl
apart_inside_none (x ∷ xs) ys i a = absurd (both_ways (has_good ys x) (apart_at (x ∷ xs) ys x a (has_head x xs)) (inside_at (x ∷ xs) ys x i (has_head x xs)))

-- ---- a filter of a list, of which without is one

cases_eq : (a b : ℕ) → (a ≡ b) ⊎ (a ≡ b → ⊥)
cases_eq a b = ⊎_elim (λ (t : eqb a b ≡ true). inl (eqb-true a b t)) (λ (t : eqb a b ≡ false). inr (eqb-false a b t)) (cases_Bool (eqb a b))

has-filter_kept : (p : ℕ → Bool) (x : ℕ) (xs : List ℕ) (g : ℕ) → has_good (filter p xs) g ≡ (p g && has_good xs g) → p x ≡ true
    → has_good (filter p (x ∷ xs)) g ≡ (p g && has_good (x ∷ xs) g)
has-filter_kept p x xs g rest e = search (rules, eq-eqb, ne_eqb, cases_eq)

has-filter_lost : (p : ℕ → Bool) (x : ℕ) (xs : List ℕ) (g : ℕ) → has_good (filter p xs) g ≡ (p g && has_good xs g) → p x ≡ false
    → has_good (filter p (x ∷ xs)) g ≡ (p g && has_good (x ∷ xs) g)
has-filter_lost p x xs g rest e = search (rules, ne_eqb, cases_eq)

pub has-filter : (p : ℕ → Bool) (xs : List ℕ) (g : ℕ) → has_good (filter p xs) g ≡ (p g && has_good xs g)
has-filter p [] g = ⊎_elim (λ (e : p g ≡ true). sym (ap (λ b. b && false) e)) (λ (e : p g ≡ false). sym (ap (λ b. b && false) e)) (cases_Bool (p g))
has-filter p (x ∷ xs) g = ⊎_elim (has-filter_kept p x xs g (has-filter p xs g)) (has-filter_lost p x xs g (has-filter p xs g)) (cases_Bool (p x))

pub AreAbove-filter : (p : ℕ → Bool) (x : ℕ) (xs : List ℕ) → AreAbove x xs → AreAbove x (filter p xs)
AreAbove-filter p x xs a = AreAbove-from_has x (filter p xs) (λ g h. has_above x xs g a (and_parts (p g) (has_good xs g) (sym (has-filter p xs g) ∙ h)).1)

pub AreBelow-filter : (p : ℕ → Bool) (G : ℕ) (xs : List ℕ) → AreBelow G xs → AreBelow G (filter p xs)
AreBelow-filter p G xs a = AreBelow-from_has G (filter p xs) (λ g h. has_below G xs g a (and_parts (p g) (has_good xs g) (sym (has-filter p xs g) ∙ h)).1)

pub IsRising-filter : (p : ℕ → Bool) (xs : List ℕ) → IsRising xs → IsRising (filter p xs)
IsRising-filter p [] r = tt
IsRising-filter p (x ∷ xs) r = search (rules, AreAbove-filter, (IsRising-filter p xs r.1))

-- ---- without

pub has-without : (xs ys : List ℕ) (g : ℕ) → has_good (without xs ys) g ≡ (not (has_good ys g) && has_good xs g)
has-without xs ys g = has-filter (λ x. not (has_good ys x)) xs g

pub IsRising-without : (xs ys : List ℕ) → IsRising xs → IsRising (without xs ys)
IsRising-without xs ys r = IsRising-filter (λ x. not (has_good ys x)) xs r

pub AreBelow-without : (G : ℕ) (xs ys : List ℕ) → AreBelow G xs → AreBelow G (without xs ys)
AreBelow-without G xs ys r = AreBelow-filter (λ x. not (has_good ys x)) G xs r

pub IsBundle-without : (G : ℕ) (xs ys : List ℕ) → IsBundle G xs → IsBundle G (without xs ys)
IsBundle-without G xs ys b = (IsRising-without xs ys b.0, AreBelow-without G xs ys b.1)

pub has_without_parts : (xs ys : List ℕ) (g : ℕ) → has_good (without xs ys) g ≡ true → (has_good xs g ≡ true) × (has_good ys g ≡ false)
has_without_parts xs ys g h = search (rules, and_parts, has-without, not-true)

pub has_without_from : (xs ys : List ℕ) (g : ℕ) → has_good xs g ≡ true → has_good ys g ≡ false → has_good (without xs ys) g ≡ true
has_without_from xs ys g h k = has-without xs ys g ∙ and_from (not (has_good ys g)) (has_good xs g) (not_from_false (has_good ys g) k) h

pub without_inside : (xs ys : List ℕ) → IsInside (without xs ys) xs
without_inside xs ys = inside_from (without xs ys) xs (λ g h. (has_without_parts xs ys g h).0)

pub without_apart : (xs ys : List ℕ) → AreApart (without xs ys) ys
without_apart xs ys = apart_from (without xs ys) ys (λ g h. (has_without_parts xs ys g h).1)

-- inside what is left: inside the whole, and apart from what was taken
pub inside_without : (zs xs ys : List ℕ) → IsInside zs xs → AreApart zs ys → IsInside zs (without xs ys)
inside_without zs xs ys i a = inside_from zs (without xs ys) (λ g h. has_without_from xs ys g (inside_at zs xs g i h) (apart_at zs ys g a h))

pub inside_without_parts : (zs xs ys : List ℕ) → IsInside zs (without xs ys) → IsInside zs xs × AreApart zs ys
inside_without_parts zs xs ys i = (inside_trans zs (without xs ys) xs i (without_inside xs ys), apart_inside zs (without xs ys) ys i (without_apart xs ys))

pub inside_without_both : (xs ys zs : List ℕ) → IsInside xs ys → IsInside (without xs zs) (without ys zs)
inside_without_both xs ys zs i = inside_without (without xs zs) ys zs (inside_trans (without xs zs) xs ys (without_inside xs zs) i) (without_apart xs zs)
