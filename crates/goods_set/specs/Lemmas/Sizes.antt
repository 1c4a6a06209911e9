-- Lemmas on what is left of a list, on how many goods a list has, on putting a good, on the next good, and on parts of a bundle.
use Rattle.std.proofs.Common.{rules, ◌≡◌, ℕ, ◌+◌, ◌<◌, ◌≤◌, Bool, true, false, not, cond, ◌&&◌, ◌||◌, eqb, leb, ◌⊎◌, inl, inr, ⊎_elim, List, [], ◌∷◌, refl}
use Rattle.std.proofs.Common.{length, ap, ap₂, ◌∙◌, subst, arith}
use Rattle.std.proofs.lemmas.Bool.{and_parts, and_from, or_cases, or_right, both_ways, not_from_true, false_from_ne_true, true_from_ne_false, or_from, eqb-true}
use Rattle.std.proofs.lemmas.Bool.{eqb-false, ne_eqb, ltb-true, ltb-false, leb-true, leb-false, cases_Bool, cases_order}
use Rattle.std.specs.Prelude.{Option, Some, None, Decides}
use Rattle.std.specs.List.{filter}
use Rattle.goods_set.specs.Bundles.{is_inside, are_apart, AreAbove, AreBelow, IsRising, IsBundle, IsInside, has_good, without, with_good, good_from}
use Rattle.goods_set.specs.Lemmas.Members.{has_head, has_tail, has_cases, has_above, has_below, has_not_head, AreAbove-lower, AreAbove-from_has, same_from_has}
use Rattle.goods_set.specs.Lemmas.Members.{AreBelow-from_has, inside_at, inside_from, inside_refl, inside_antisymm, has_without_from, inside_without}
use Rattle.goods_set.specs.Lemmas.Members.{inside_without_parts}

-- ---- what is left of nothing, and of a list whose goods are all taken, or none

-- a filter that passes every good of the list
filter_all : (p : ℕ → Bool) (xs : List ℕ) → ((g : ℕ) → has_good xs g ≡ true → p g ≡ true) → filter p xs ≡ xs
filter_all p [] h = refl
filter_all p (x ∷ xs) h = search (rules, has_head, has_tail, (filter_all p xs (λ g k. h g (has_tail x xs g k))))

filter_none : (p : ℕ → Bool) (xs : List ℕ) → ((g : ℕ) → has_good xs g ≡ true → p g ≡ false) → filter p xs ≡ []
filter_none p [] h = refl
filter_none p (x ∷ xs) h = search (rules, has_head, has_tail, (filter_none p xs (λ g k. h g (has_tail x xs g k))))

-- two filters by tests that agree on the goods of the list
pub filter_same : (p q : ℕ → Bool) (xs : List ℕ) → ((g : ℕ) → has_good xs g ≡ true → p g ≡ q g) → filter p xs ≡ filter q xs
filter_same p q [] h = refl
filter_same p q (x ∷ xs) h = ap₂ (λ (b : Bool) (zs : List ℕ). cond b (x ∷ zs) zs) (h x (has_head x xs)) (filter_same p q xs (λ g k. h g (has_tail x xs g k)))

-- a filter of a filter
pub filter_twice : (p q : ℕ → Bool) (xs : List ℕ) → filter p (filter q xs) ≡ filter (λ g. p g && q g) xs
filter_twice p q [] = refl
filter_twice p q (x ∷ xs) = search (rules, (filter_twice p q xs))

pub without_all : (xs ys : List ℕ) → IsInside xs ys → without xs ys ≡ []
without_all xs ys i = filter_none (λ g. not (has_good ys g)) xs (λ g h. not_from_true (has_good ys g) (inside_at xs ys g i h))

pub without-nil : (xs : List ℕ) → without xs [] ≡ xs
without-nil xs = filter_all (λ g. not (has_good [] g)) xs (λ g h. refl)

-- in which order goods are taken is the same
pub without_comm : (xs ys zs : List ℕ) → without (without xs ys) zs ≡ without (without xs zs) ys
without_comm xs ys zs = search (rules, filter_twice, filter_same)

-- ---- sizes

-- a good less in ys is a good more in what is left, if it is the first of xs
without_head : (x : ℕ) (xs ys : List ℕ) → AreAbove x xs → without xs (x ∷ ys) ≡ without xs ys
without_head x xs ys a = search (rules, filter_same, has_above, ne_eqb)

inside_tails : (x : ℕ) (xs : List ℕ) (y : ℕ) (ys : List ℕ) → x ≡ y → AreAbove y ys → IsInside (y ∷ ys) (x ∷ xs) → IsInside ys xs
inside_tails x xs y ys e s i =
    inside_from ys xs (λ g h. let l : y < g = has_above y ys g s h in
    ⊎_elim (λ (d : x ≡ g). absurd (omega arith)) (λ (d : has_good xs g ≡ true). d) (has_cases x xs g (inside_at (y ∷ ys) (x ∷ xs) g i (has_tail y ys g h))))

inside_tail : (x : ℕ) (xs : List ℕ) (y : ℕ) (ys : List ℕ) → x < y → AreAbove y ys → IsInside (y ∷ ys) (x ∷ xs) → IsInside (y ∷ ys) xs
inside_tail x xs y ys l s i =
    inside_from (y ∷ ys) xs (λ g h. let k : x < g = has_above x (y ∷ ys) g (l, AreAbove-lower x y ys (omega arith) s) h in
    ⊎_elim (λ (d : x ≡ g). absurd (omega arith)) (λ (d : has_good xs g ≡ true). d) (has_cases x xs g (inside_at (y ∷ ys) (x ∷ xs) g i h)))

-- the first good of a list inside another is not below the other's first good
inside_heads : (x : ℕ) (xs : List ℕ) (y : ℕ) (ys : List ℕ) → AreAbove x xs → IsInside (y ∷ ys) (x ∷ xs) → x ≤ y
inside_heads x xs y ys r i = search (rules, has_above, has_cases, inside_at, has_head)

-- what is left and what was taken out of a bundle are the bundle
pub length-without : (xs ys : List ℕ) → IsRising xs → IsRising ys → IsInside ys xs → length (without xs ys) + length ys ≡ length xs
length-without xs [] r s i = let e : without xs [] ≡ xs = without-nil xs in rw e (omega arith)
length-without [] (y ∷ ys) r s i = absurd (both_ways false refl (inside_at (y ∷ ys) [] y i (has_head y ys)))
length-without (x ∷ xs) (y ∷ ys) r s i =
    ⊎_elim (λ (e : x ≡ y). taken e (length-without xs ys r.1 s.1 (inside_tails x xs y ys e s.0 i)))
    (⊎_elim (λ (l : x < y). left l (length-without xs (y ∷ ys) r.1 s (inside_tail x xs y ys l s.0 i)))
    (λ (l : y < x). let k : x ≤ y = inside_heads x xs y ys r.0 i in absurd (omega arith))) (cases_order x y)
  where
    taken : x ≡ y → length (without xs ys) + length ys ≡ length xs → length (without (x ∷ xs) (y ∷ ys)) + length (y ∷ ys) ≡ length (x ∷ xs)
    taken e h =
        let t : has_good (y ∷ ys) x ≡ true = subst (λ n. has_good (n ∷ ys) x ≡ true) e (has_head x ys) in
        let w : without xs (y ∷ ys) ≡ without xs ys = without_head y xs ys (subst (λ n. AreAbove n xs) e r.0) in
        rw (t, w) (omega arith)

    left : x < y → length (without xs (y ∷ ys)) + length (y ∷ ys) ≡ length xs → length (without (x ∷ xs) (y ∷ ys)) + length (y ∷ ys) ≡ length (x ∷ xs)
    left l h =
        let t : has_good (y ∷ ys) x ≡ false = has_not_head x (y ∷ ys) (l, AreAbove-lower x y ys (omega arith) s.0) in
        rw t (omega arith)

pub length_inside : (xs ys : List ℕ) → IsRising xs → IsRising ys → IsInside xs ys → length xs ≤ length ys
length_inside xs ys r s i = omega (arith, length-without ys xs s r i)

pub no_goods : (xs : List ℕ) → length xs ≡ 0 → xs ≡ []
no_goods [] e = refl
no_goods (x ∷ xs) e = absurd (omega arith)

-- what is left of ys is the list of goods that xs lacks; where there are none, ys is inside xs
pub inside_from_without : (xs ys : List ℕ) → without xs ys ≡ [] → IsInside xs ys
inside_from_without xs ys e =
    inside_from xs ys (λ g h. true_from_ne_false (has_good ys g)
    (λ k. both_ways (has_good [] g) refl (subst (λ zs. has_good zs g ≡ true) e (has_without_from xs ys g h k))))

pub same_from_length : (xs ys : List ℕ) → IsRising xs → IsRising ys → IsInside xs ys → length xs ≡ length ys → xs ≡ ys
same_from_length xs ys r s i e = inside_antisymm xs ys r s i (inside_from_without ys xs (no_goods (without ys xs) (omega (arith, length-without ys xs s r i))))

-- a bundle is inside one that is not larger only where the two are the same
pub inside_not_larger : (xs ys : List ℕ) (same : Bool) → IsRising xs → IsRising ys → length ys ≤ length xs → Decides same (xs ≡ ys) → same ≡ is_inside xs ys
inside_not_larger xs ys same r s l d = search (rules, cases_Bool, inside_refl, false_from_ne_true, length_inside, both_ways, same_from_length)

-- ---- put

pub has-with_good : (x : ℕ) (xs : List ℕ) (g : ℕ) → has_good (with_good x xs) g ≡ (eqb x g || has_good xs g)
has-with_good x [] g = refl
has-with_good x (y ∷ ys) g = search (rules, eqb-true, (has-with_good x ys g))

pub AreAbove-with_good : (a x : ℕ) (xs : List ℕ) → a < x → AreAbove a xs → AreAbove a (with_good x xs)
AreAbove-with_good a x xs l h = search (rules, AreAbove-from_has, eqb-true, has_above, or_cases, has-with_good)

pub AreBelow-with_good : (G x : ℕ) (xs : List ℕ) → x < G → AreBelow G xs → AreBelow G (with_good x xs)
AreBelow-with_good G x xs l h = search (rules, AreBelow-from_has, eqb-true, has_below, or_cases, has-with_good)

strictly : (x y : ℕ) → y ≤ x → (x ≡ y → ⊥) → y < x
strictly x y l n = ⊎_elim (λ (e : x ≡ y). absurd (n e)) (⊎_elim (λ (k : x < y). absurd (omega arith)) (λ (k : y < x). k)) (cases_order x y)

pub IsRising-with_good : (x : ℕ) (xs : List ℕ) → IsRising xs → IsRising (with_good x xs)
IsRising-with_good x [] r = (tt, tt)
IsRising-with_good x (y ∷ ys) r = search (rules, ltb-true, AreAbove-lower, ltb-false, eqb-false, AreAbove-with_good, strictly, (IsRising-with_good x ys r.1))

pub IsBundle-with_good : (G x : ℕ) (xs : List ℕ) → x < G → IsBundle G xs → IsBundle G (with_good x xs)
IsBundle-with_good G x xs l b = (IsRising-with_good x xs b.0, AreBelow-with_good G x xs l b.1)

-- a good that is there is not put again
pub with_good_there : (x : ℕ) (xs : List ℕ) → IsRising xs → has_good xs x ≡ true → with_good x xs ≡ xs
with_good_there x xs r h = search (rules, same_from_has, IsRising-with_good, eqb-true, or_cases, has-with_good, or_right)

-- ---- the next good

pub record IsNextGood (xs : List ℕ) (g m : ℕ) : Type 0 where
  pub there : has_good xs m ≡ true
  pub from : g ≤ m
  pub least : (k : ℕ) → g ≤ k → k < m → has_good xs k ≡ false

pub good_from-Some : (xs : List ℕ) (g m : ℕ) → IsRising xs → good_from xs g ≡ Some m → IsNextGood xs g m
good_from-Some [] g m r e = absurd (cc)
good_from-Some (x ∷ xs) g m r e =
    search (rules, leb-true, has_head, false_from_ne_true, has_above, has_cases, leb-false, has_tail, both_ways, (good_from-Some xs g m r.1))

pub good_from-None : (xs : List ℕ) (g k : ℕ) → good_from xs g ≡ None → g ≤ k → has_good xs k ≡ false
good_from-None [] g k e a = refl
good_from-None (x ∷ xs) g k e a = at (λ f. good_from-None xs g k f a) (leb g x) refl
  where
    at : (good_from xs g ≡ None → has_good xs k ≡ false) → (b : Bool) → leb g x ≡ b → has_good (x ∷ xs) k ≡ false
    at h true t = let f : Some x ≡ None = rw t at e in absurd (cc)
    at h false t =
        let f : good_from xs g ≡ None = rw t at e in
        let l : x < g = leb-false g x t in
        or_from (eqb x k) (has_good xs k) (ne_eqb x k (λ q. omega arith)) (h f)

-- the converses
pub good_from_next : (xs : List ℕ) (g m : ℕ) → IsRising xs → IsNextGood xs g m → good_from xs g ≡ Some m
good_from_next xs g m r n = at (good_from xs g) refl
  where
    at : (o : Option ℕ) → good_from xs g ≡ o → good_from xs g ≡ Some m
    at None e = absurd (both_ways (has_good xs m) (good_from-None xs g m e n.from) n.there)
    at (Some k) e =
        let q : IsNextGood xs g k = good_from-Some xs g k r e in
        let d : k ≡ m = same q (cases_order k m) in
        e ∙ ap Some d
      where
        same : IsNextGood xs g k → (k ≡ m) ⊎ ((k < m) ⊎ (m < k)) → k ≡ m
        same q (inl d) = d
        same q (inr (inl l)) = absurd (both_ways (has_good xs k) (n.least k q.from l) q.there)
        same q (inr (inr l)) = absurd (both_ways (has_good xs m) (q.least m n.from l) n.there)

pub good_from_none : (xs : List ℕ) (g : ℕ) → IsRising xs → ((k : ℕ) → g ≤ k → has_good xs k ≡ false) → good_from xs g ≡ None
good_from_none xs g r h = at (good_from xs g) refl
  where
    at : (o : Option ℕ) → good_from xs g ≡ o → good_from xs g ≡ None
    at None e = e
    at (Some k) e = let q : IsNextGood xs g k = good_from-Some xs g k r e in absurd (both_ways (has_good xs k) (h k q.from) q.there)

-- ---- parts of a bundle

pub is_inside-without : (zs xs ys : List ℕ) → is_inside zs (without xs ys) ≡ (is_inside zs xs && are_apart zs ys)
is_inside-without zs xs ys = search (rules, inside_without_parts, and_from, and_parts, inside_without)
