-- Bidders are counted alike by their tables and by their points. A bidder of value zero has neither, and of the others each has
-- the points that its table says.
use Rattle.canon.proofs.Common.{◌≡◌, ℕ, ◌+◌, ◌<◌, ◌≤◌, Bool, true, false, cond, ⊎_elim, List, [], ◌∷◌, refl, sym, ap, ◌∙◌, arith, le_antisymm, nat_cmp, All}
use Rattle.canon.proofs.Common.{count_by, is_eq, slice_cmp, slice_cmp-IsAntisymmetric, nat_cmp-IsAntisymmetric, cases_Bool, both_ways, false_from_ne_true}
use Rattle.canon.proofs.Common.{cond-true, cond-false, tied_itself, nat_list_cmp_total, All-head, All-tail, sum_by-cons, Atom, IsAtom, bidder_cmp}
use Rattle.canon.proofs.Common.{bidder_cmp_total, bidder_cmp_equal, count_of, xor_table, is_nonzero, xor_points, zero_or_more, same_xor_points, on_bundles}
use Rattle.canon.proofs.Common.{has_table, points_of_bidders, equal_from, rules}
use Rattle.canon.proofs.CanonicalAuctions.Atoms.{xor_points_table}

-- ---- tests by an order

pub same_table : (goods : ℕ) (table : List ℕ) (bidder : List (Atom (List ℕ))) → has_table goods table bidder ≡ true → xor_table bidder goods ≡ table
same_table goods table bidder e =
    slice_cmp-IsAntisymmetric nat_cmp-IsAntisymmetric (xor_table bidder goods) table (equal_from (slice_cmp nat_cmp (xor_table bidder goods) table) e)

pub its_table : (goods : ℕ) (table : List ℕ) (bidder : List (Atom (List ℕ))) → xor_table bidder goods ≡ table → has_table goods table bidder ≡ true
its_table goods table bidder e = search (rules, tied_itself, nat_list_cmp_total)

-- a bidder of value zero does not have the table of one that is not
zero_has_none : (goods : ℕ) (table : List ℕ) (bidder : List (Atom (List ℕ))) → is_nonzero table ≡ true → is_nonzero (xor_table bidder goods) ≡ false
    → has_table goods table bidder ≡ false
zero_has_none goods table bidder n z = search (rules, false_from_ne_true, both_ways, same_table)

-- one more bidder
count_by-cons : {X : Type 0} (p : X → Bool) (x : X) (xs : List X) → count_by p (x ∷ xs) ≡ cond {A = ℕ} (p x) 1 0 + count_by p xs
count_by-cons p x xs = sum_by-cons (λ y. cond {A = ℕ} (p y) 1 0) x xs

counts : {X : Type 0} (p : X → Bool) (x : X) (xs : List X) → p x ≡ true → count_by p (x ∷ xs) ≡ 1 + count_by p xs
counts p x xs e = let first : cond {A = ℕ} (p x) 1 0 ≡ 1 = ap (λ b. cond {A = ℕ} b 1 0) e in omega (arith, count_by-cons p x xs)

pub skips : {X : Type 0} (p : X → Bool) (x : X) (xs : List X) → p x ≡ false → count_by p (x ∷ xs) ≡ count_by p xs
skips p x xs e = let first : cond {A = ℕ} (p x) 1 0 ≡ 0 = ap (λ b. cond {A = ℕ} b 1 0) e in omega (arith, count_by-cons p x xs)

pub alike : {X Y : Type 0} (p : X → Bool) (q : Y → Bool) (x : X) (xs : List X) (y : Y) (ys : List Y) → p x ≡ q y → count_by p xs ≡ count_by q ys
    → count_by p (x ∷ xs) ≡ count_by q (y ∷ ys)
alike p q x xs y ys e rest = search (rules, count_by-cons)

module _ (goods : ℕ) where
  -- the points of one more bidder
  pub points_more : (bidder : List (Atom (List ℕ))) (bidders : List (List (Atom (List ℕ)))) → is_nonzero (xor_table bidder goods) ≡ true
      → points_of_bidders goods (bidder ∷ bidders) ≡ xor_points goods bidder ∷ points_of_bidders goods bidders
  points_more bidder bidders e = search (rules, cond-true)

  pub points_without : (bidder : List (Atom (List ℕ))) (bidders : List (List (Atom (List ℕ)))) → is_nonzero (xor_table bidder goods) ≡ false
      → points_of_bidders goods (bidder ∷ bidders) ≡ points_of_bidders goods bidders
  points_without bidder bidders e = search (rules, cond-false)

  -- ---- by table, the points of bidders are counted as the bidders are

  pub tables_of_points : (table : List ℕ) → is_nonzero table ≡ true → (bidders : List (List (Atom (List ℕ)))) → All (All (IsAtom goods)) bidders
      → count_by (has_table goods table) (points_of_bidders goods bidders) ≡ count_by (has_table goods table) bidders
  tables_of_points table n [] h = refl
  tables_of_points table n (bidder ∷ bidders) h =
      let later = tables_of_points table n bidders (All-tail (All (IsAtom goods)) bidder bidders h) in
      let atoms = All-head (All (IsAtom goods)) bidder bidders h in
      ⊎_elim
      (λ (e : is_nonzero (xor_table bidder goods) ≡ true).
      ap (count_by (has_table goods table)) (points_more bidder bidders e)
      ∙ alike (has_table goods table) (has_table goods table) (xor_points goods bidder) (points_of_bidders goods bidders) bidder bidders
      (ap (λ (t : List ℕ). is_eq (slice_cmp nat_cmp t table)) (xor_points_table goods bidder atoms)) later)
      (λ (e : is_nonzero (xor_table bidder goods) ≡ false).
      ap (count_by (has_table goods table)) (points_without bidder bidders e) ∙ later
      ∙ sym (skips (has_table goods table) bidder bidders (zero_has_none goods table bidder n e)))
      (cases_Bool (is_nonzero (xor_table bidder goods)))

  -- ---- bidders that have these points are counted as those that have this table

  module _ (model : List (Atom (List ℕ))) (atoms_of_model : All (IsAtom goods) model) (nonzero : is_nonzero (xor_table model goods) ≡ true) where
    same_as_model : (bidder : List (Atom (List ℕ))) → All (IsAtom goods) bidder → is_eq (bidder_cmp (xor_points goods model) (xor_points goods bidder))
        ≡ has_table goods (xor_table model goods) bidder
    same_as_model bidder h = search (rules, same_xor_points, on_bundles, its_table, bidder_cmp_equal, equal_from, same_table, tied_itself, bidder_cmp_total)

    pub points_as_tables : (bidders : List (List (Atom (List ℕ)))) → All (All (IsAtom goods)) bidders
        → count_of bidder_cmp (xor_points goods model) (points_of_bidders goods bidders) ≡ count_by (has_table goods (xor_table model goods)) bidders
    points_as_tables [] h = refl
    points_as_tables (bidder ∷ bidders) h =
        let later = points_as_tables bidders (All-tail (All (IsAtom goods)) bidder bidders h) in
        let atoms = All-head (All (IsAtom goods)) bidder bidders h in
        ⊎_elim
        (λ (e : is_nonzero (xor_table bidder goods) ≡ true).
        ap (count_of bidder_cmp (xor_points goods model)) (points_more bidder bidders e)
        ∙ alike (λ p. is_eq (bidder_cmp (xor_points goods model) p)) (has_table goods (xor_table model goods)) (xor_points goods bidder)
        (points_of_bidders goods bidders) bidder bidders (same_as_model bidder atoms) later)
        (λ (e : is_nonzero (xor_table bidder goods) ≡ false).
        ap (count_of bidder_cmp (xor_points goods model)) (points_without bidder bidders e) ∙ later
        ∙ sym (skips (has_table goods (xor_table model goods)) bidder bidders (zero_has_none goods (xor_table model goods) bidder nonzero e)))
        (cases_Bool (is_nonzero (xor_table bidder goods)))

  -- ---- lists of points that occur are those of some bidder

  pub record IsPointsOf (points bidder : List (Atom (List ℕ))) : Type 0 where
    pub atoms : All (IsAtom goods) bidder
    pub nonzero : is_nonzero (xor_table bidder goods) ≡ true
    pub are : points ≡ xor_points goods bidder

  pub occurring : (points : List (Atom (List ℕ))) (bidders : List (List (Atom (List ℕ)))) → All (All (IsAtom goods)) bidders
      → 0 < count_of bidder_cmp points (points_of_bidders goods bidders) → (bidder : List (Atom (List ℕ))) × IsPointsOf points bidder
  occurring points [] h l = let none : count_of bidder_cmp points [] ≡ 0 = refl in absurd (omega arith)
  occurring points (bidder ∷ bidders) h l =
      let again = occurring points bidders (All-tail (All (IsAtom goods)) bidder bidders h) in
      search (rules, All-tail, All, All-head, bidder_cmp_equal, equal_from, points_more, skips, cases_Bool, points_without, again)

  at_most : (one other : List (List (Atom (List ℕ)))) → All (All (IsAtom goods)) one → All (All (IsAtom goods)) other
      → ((table : List ℕ) → is_nonzero table ≡ true → count_by (has_table goods table) one ≡ count_by (has_table goods table) other)
      → (points : List (Atom (List ℕ))) → count_of bidder_cmp points (points_of_bidders goods one) ≤ count_of bidder_cmp points (points_of_bidders goods other)
  at_most one other h k same points = ⊎_elim (search rules) (λ (l : 0 < count_of bidder_cmp points (points_of_bidders goods one)).
      let r = occurring points one h l in
      let here = ap (λ (p : List (Atom (List ℕ))). count_of bidder_cmp p (points_of_bidders goods one)) r.1.are
      ∙ points_as_tables r.0 r.1.atoms r.1.nonzero one h in
      let there = ap (λ (p : List (Atom (List ℕ))). count_of bidder_cmp p (points_of_bidders goods other)) r.1.are
      ∙ points_as_tables r.0 r.1.atoms r.1.nonzero other k in
      let tables = same (xor_table r.0 goods) r.1.nonzero in
      omega arith) (zero_or_more (count_of bidder_cmp points (points_of_bidders goods one)))

  -- bidders that are counted alike by table have points that are counted alike
  pub points_counted : (one other : List (List (Atom (List ℕ)))) → All (All (IsAtom goods)) one → All (All (IsAtom goods)) other
      → ((table : List ℕ) → is_nonzero table ≡ true → count_by (has_table goods table) one ≡ count_by (has_table goods table) other)
      → (points : List (Atom (List ℕ))) → count_of bidder_cmp points (points_of_bidders goods one) ≡ count_of bidder_cmp points (points_of_bidders goods other)
  points_counted one other h k same points = le_antisymm (at_most one other h k same points) (at_most other one k h (λ table n. sym (same table n)) points)
