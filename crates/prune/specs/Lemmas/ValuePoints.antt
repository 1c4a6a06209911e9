-- The points by any value, of which OR and XOR are two. A bundle is a point if its value is above 0 and above what each split of
-- it is worth. The idea: a value above 0 is that of an atom on the whole bundle, or of a split; and for what is properly inside
-- a bundle only the atoms below it matter. So a list in order, of whose atoms none is reached by those below it, is the list of
-- its points; and points keep the values, by the sizes of bundles.
use Rattle.std.proofs.Common.{◌≡◌, ℕ, zero, suc, ◌<◌, ◌≤◌, Bool, true, false, ◌⊎◌, inl, inr, ⊎_elim, List, [], ◌∷◌, ◌++◌, length, refl, sym, ap, ap₂, subst}
use Rattle.std.proofs.Common.{arith, le_antisymm}
use Rattle.std.specs.Prelude.{All, Contains}
use Rattle.std.specs.List.{filter}
use Rattle.std.specs.Cmp.{both_ways as same_test}
use Rattle.std.proofs.lemmas.Bool.{cases_Bool}
use Rattle.std.proofs.lemmas.List.Elements.{All-contains, All-weaker, All-filter}
use Rattle.goods_set.specs.Bundles.{IsRising, IsBundle, is_inside, IsInside}
use Rattle.goods_set.specs.Lemmas.Members.{inside_refl}
use Rattle.goods_set.specs.Lemmas.Sizes.{length_inside, same_from_length}
use Rattle.valuation.specs.declared.atom.Atom.{Atom}
use Rattle.valuation.specs.Lemmas.Lists.{le_or_lt}
use Rattle.prune.specs.InOrder.{IsInOrder}
use Rattle.prune.specs.Points.{points_where}
use Rattle.prune.specs.SearchSteps.{is_below, atoms_below}
use Rattle.prune.specs.Lemmas.InOrder.{same_bundle_same_atom, same_in_order}
use Rattle.prune.specs.Lemmas.Lists.{All-from_Contains}
use Rattle.prune.specs.Lemmas.Points.{IsPoint, points_where-in_order, points_where-are, points_where-has, points_where-same}

pub atom_from_parts : (a b : Atom (List ℕ)) → a.bundle ≡ b.bundle → a.price ≡ b.price → a ≡ b
atom_from_parts a b e f = ap₂ (λ (xs : List ℕ) (n : ℕ). record { bundle = xs; price = n }) e f

-- what is properly inside is smaller
proper_smaller : (part bundle : List ℕ) → IsRising part → IsRising bundle → IsInside part bundle → is_inside bundle part ≡ false → length part < length bundle
proper_smaller part bundle r s i n = ⊎_elim (λ (l : length bundle ≤ length part). absurd
    (let most = length_inside part bundle r s i in
    let e : part ≡ bundle = same_from_length part bundle r s i (omega arith) in
    let d = subst (λ (xs : List ℕ). is_inside xs xs ≡ false) e (subst (λ (xs : List ℕ). is_inside xs part ≡ false) (sym e) n) in
    let t = inside_refl bundle in cc)) (λ (l : length part < length bundle). l) (le_or_lt (length bundle) (length part))

-- a value of bundles by atoms of a kind, the splits of a bundle, what a split is worth by given values, and the test of a point
pub record IsValue {X : Type 0} (On : ℕ → Atom (List ℕ) → Type 0) (value : List (Atom (List ℕ)) → List ℕ → ℕ) (Splits : List ℕ → X → Type 0)
    (worth : (List ℕ → ℕ) → List ℕ → X → ℕ) (passes : ℕ → List (Atom (List ℕ)) → List ℕ → Bool) : Type 0 where
  pub from_test : (goods : ℕ) (atoms : List (Atom (List ℕ))) (bundle : List ℕ) → IsBundle goods bundle → passes goods atoms bundle ≡ true
      → (0 < value atoms bundle) × ((x : X) → Splits bundle x → worth (value atoms) bundle x < value atoms bundle)
  pub test_true : (goods : ℕ) (atoms : List (Atom (List ℕ))) (bundle : List ℕ) → 0 < value atoms bundle
      → ((x : X) → Splits bundle x → worth (value atoms) bundle x < value atoms bundle) → passes goods atoms bundle ≡ true
  pub test_false : (goods : ℕ) (atoms : List (Atom (List ℕ))) (bundle : List ℕ) → passes goods atoms bundle ≡ false
      → (value atoms bundle ≡ 0) ⊎ ((x : X) × Splits bundle x × (value atoms bundle ≤ worth (value atoms) bundle x))
  pub on : (goods : ℕ) (a : Atom (List ℕ)) → On goods a → IsBundle goods a.bundle
  pub member : (atoms : List (Atom (List ℕ))) (a : Atom (List ℕ)) → Contains atoms a → (bundle : List ℕ) → IsInside a.bundle bundle
      → a.price ≤ value atoms bundle
  pub more : (atoms : List (Atom (List ℕ))) (a : Atom (List ℕ)) (bundle : List ℕ) → value atoms bundle ≤ value (atoms ++ a ∷ []) bundle
  pub fewer : (p : Atom (List ℕ) → Bool) (atoms : List (Atom (List ℕ))) (bundle : List ℕ) → value (filter p atoms) bundle ≤ value atoms bundle
  pub below : (atoms : List (Atom (List ℕ))) (proper bundle : List ℕ) → IsInside proper bundle → is_inside bundle proper ≡ false
      → value (atoms_below atoms bundle) proper ≡ value atoms proper
  pub grows : (v w : List ℕ → ℕ) (goods : ℕ) (bundle : List ℕ) (x : X) → IsBundle goods bundle → Splits bundle x
      → ((part : List ℕ) → IsBundle goods part → IsInside part bundle → is_inside bundle part ≡ false → v part ≤ w part) → worth v bundle x ≤ worth w bundle x
  pub adds : (goods : ℕ) (atoms : List (Atom (List ℕ))) → All (On goods) atoms → (bundle : List ℕ) (x : X) → Splits bundle x
      → worth (value atoms) bundle x ≤ value atoms bundle
  pub reached : (goods : ℕ) (atoms : List (Atom (List ℕ))) → All (On goods) atoms → (bundle : List ℕ) → IsBundle goods bundle → 0 < value atoms bundle
      → ((a : Atom (List ℕ)) × Contains atoms a × (a.bundle ≡ bundle) × (value atoms bundle ≤ a.price))
      ⊎ ((x : X) × Splits bundle x × (value atoms bundle ≤ worth (value atoms) bundle x))
  pub dominated : (goods : ℕ) (other atoms : List (Atom (List ℕ))) → All (On goods) other → All (λ a. a.price ≤ value other a.bundle) atoms
      → (bundle : List ℕ) → value atoms bundle ≤ value other bundle

module _ {X : Type 0} {On : ℕ → Atom (List ℕ) → Type 0} {value : List (Atom (List ℕ)) → List ℕ → ℕ} {Splits : List ℕ → X → Type 0}
    {worth : (List ℕ → ℕ) → List ℕ → X → ℕ} {passes : ℕ → List (Atom (List ℕ)) → List ℕ → Bool} (V : IsValue On value Splits worth passes) where
  abbrev points : ℕ → List (Atom (List ℕ)) → List (Atom (List ℕ))
  points goods atoms = points_where (passes goods atoms) (value atoms) goods

  -- ---- points are atoms

  -- if the atoms below do not reach the price of a kept atom, it is a point
  kept_is_point : (goods : ℕ) (atoms : List (Atom (List ℕ))) → IsInOrder atoms → All (On goods) atoms → (b : Atom (List ℕ)) → Contains atoms b
      → value (atoms_below atoms b.bundle) b.bundle < b.price → IsPoint (passes goods atoms) (value atoms) goods b
  kept_is_point goods atoms order on b c short =
      let bundle : IsBundle goods b.bundle = V.on goods b (All-contains (On goods) atoms b on c) in
      let low : b.price ≤ value atoms b.bundle = V.member atoms b c b.bundle (inside_refl b.bundle) in
      let same : b.price ≡ value atoms b.bundle = elim (V.reached goods atoms on b.bundle bundle (omega arith)) [
        | inl r ↦ let q : r.0.price ≡ b.price = ap (λ (z : Atom (List ℕ)). z.price) (same_bundle_same_atom atoms order r.0 b r.1 c r.2) in
            let most = r.3 in omega arith
        | inr r ↦ let less = split_short bundle r.0 r.1 in let most = r.2 in omega arith
      ] in
      record {
        bundle = bundle;
        chosen = V.test_true goods atoms b.bundle (omega arith) (λ x s. let less = split_short bundle x s in omega arith);
        price = same;
      }
    where
      split_short : IsBundle goods b.bundle → (x : X) → Splits b.bundle x → worth (value atoms) b.bundle x < b.price
      split_short bundle x s =
          let first = V.grows (value atoms) (value (atoms_below atoms b.bundle)) goods b.bundle x bundle s
          (λ part _ i n. let e = V.below atoms part b.bundle i n in omega arith) in
          let second = V.adds goods (atoms_below atoms b.bundle) (All-filter (λ a. is_below a.bundle b.bundle) (On goods) atoms on) b.bundle x s in
          omega arith

  -- a point of a list is an atom of the list
  pub points_are_atoms : (goods : ℕ) (atoms : List (Atom (List ℕ))) → All (On goods) atoms → All (Contains atoms) (points goods atoms)
  points_are_atoms goods atoms on = All-from_Contains (Contains atoms) (points goods atoms)
      (λ a c. point_is_atom a (points_where-are (passes goods atoms) (value atoms) goods a c))
    where
      point_is_atom : (a : Atom (List ℕ)) → IsPoint (passes goods atoms) (value atoms) goods a → Contains atoms a
      point_is_atom a p =
          let test = V.from_test goods atoms a.bundle p.bundle p.chosen in
          let price = p.price in
          elim (V.reached goods atoms on a.bundle p.bundle test.0) [
            | inl r ↦
                let own = V.member atoms r.0 r.1 a.bundle (subst (λ (xs : List ℕ). IsInside xs a.bundle) (sym r.2) (inside_refl a.bundle)) in
                let most = r.3 in
                subst (λ (z : Atom (List ℕ)). Contains atoms z) (atom_from_parts r.0 a r.2 (omega arith)) r.1
            | inr r ↦ let less = test.1 r.0 r.1 in let most = r.2 in absurd (omega arith)
          ]

  -- a list in order, of whose atoms none is reached by those below it, is its points
  pub kept_are_points : (goods : ℕ) (atoms : List (Atom (List ℕ))) → IsInOrder atoms → All (On goods) atoms
      → All (λ b. value (atoms_below atoms b.bundle) b.bundle < b.price) atoms → atoms ≡ points goods atoms
  kept_are_points goods atoms order on short =
      same_in_order atoms (points goods atoms) order (points_where-in_order (passes goods atoms) (value atoms) goods)
      (λ b c. points_where-has (passes goods atoms) (value atoms) goods b (kept_is_point goods atoms order on b c
      (All-contains (λ b. value (atoms_below atoms b.bundle) b.bundle < b.price) atoms b short c)))
      (λ b c. All-contains (Contains atoms) (points goods atoms) b (points_are_atoms goods atoms on) c)

  pub points_on : (goods : ℕ) (atoms : List (Atom (List ℕ))) → All (On goods) atoms → All (On goods) (points goods atoms)
  points_on goods atoms on = All-weaker (Contains atoms) (On goods) (λ a c. All-contains (On goods) atoms a on c) (points goods atoms)
      (points_are_atoms goods atoms on)

  -- ---- points depend on the values on bundles over the goods alone

  pub points_same : (goods : ℕ) (one other : List (Atom (List ℕ))) → ((bundle : List ℕ) → IsBundle goods bundle → value one bundle ≡ value other bundle)
      → points goods one ≡ points goods other
  points_same goods one other same = points_where-same (passes goods one) (passes goods other) (value one) (value other) goods
      (λ bundle b. same_test (passes goods one bundle) (passes goods other bundle) (passes_too one other same bundle b)
      (passes_too other one (λ c d. sym (same c d)) bundle b)) same
    where
      passes_too : (one other : List (Atom (List ℕ))) → ((bundle : List ℕ) → IsBundle goods bundle → value one bundle ≡ value other bundle) → (bundle : List ℕ)
          → IsBundle goods bundle → passes goods one bundle ≡ true → passes goods other bundle ≡ true
      passes_too one other same bundle b t =
          let test = V.from_test goods one bundle b t in
          let positive = test.0 in
          let e = same bundle b in
          V.test_true goods other bundle (omega arith) (λ x s.
          let less = test.1 x s in
          let most = V.grows (value other) (value one) goods bundle x b s (λ part p _ _. let d = same part p in omega arith) in
          omega arith)

  -- ---- points keep the values

  -- the values of the points reach those of the list, on bundles over the goods, by their size
  points_reach : (goods : ℕ) (atoms : List (Atom (List ℕ))) → All (On goods) (points goods atoms) → (n : ℕ) (bundle : List ℕ) → length bundle < n
      → IsBundle goods bundle → value atoms bundle ≤ value (points goods atoms) bundle
  points_reach goods atoms on zero bundle l b = absurd (omega arith)
  points_reach goods atoms on (suc n) bundle l b = ⊎_elim point (no_point (points_reach goods atoms on n)) (cases_Bool (passes goods atoms bundle))
    where
      point : passes goods atoms bundle ≡ true → value atoms bundle ≤ value (points goods atoms) bundle
      point t =
          let p : Atom (List ℕ) = record { bundle = bundle; price = value atoms bundle } in
          let c = points_where-has (passes goods atoms) (value atoms) goods p (record { bundle = b; chosen = t; price = refl }) in
          V.member (points goods atoms) p c bundle (inside_refl bundle)

      no_point : ((bundle : List ℕ) → length bundle < n → IsBundle goods bundle → value atoms bundle ≤ value (points goods atoms) bundle)
          → passes goods atoms bundle ≡ false → value atoms bundle ≤ value (points goods atoms) bundle
      no_point reach t = elim (V.test_false goods atoms bundle t) [
        | inl z ↦ omega arith
        | inr r ↦
            let parts = V.grows (value atoms) (value (points goods atoms)) goods bundle r.0 b r.1
            (λ part p i m. reach part (let s = proper_smaller part bundle p.0 b.0 i m in omega arith) p) in
            let both = V.adds goods (points goods atoms) on bundle r.0 r.1 in
            let most = r.2 in
            omega arith
      ]

  -- the points have the value of the list on each bundle over the goods
  pub points_keep_values : (goods : ℕ) (atoms : List (Atom (List ℕ))) → All (On goods) atoms → (bundle : List ℕ) → IsBundle goods bundle
      → value (points goods atoms) bundle ≡ value atoms bundle
  points_keep_values goods atoms on bundle b = le_antisymm
      (V.dominated goods atoms (points goods atoms) on (All-weaker (Contains atoms) (λ a. a.price ≤ value atoms a.bundle)
      (λ a c. V.member atoms a c a.bundle (inside_refl a.bundle)) (points goods atoms) (points_are_atoms goods atoms on)) bundle)
      (points_reach goods atoms (points_on goods atoms on) (suc (length bundle)) bundle (omega arith) b)

  -- and have themselves as points
  pub points_again : (goods : ℕ) (atoms : List (Atom (List ℕ))) → All (On goods) atoms → points goods (points goods atoms) ≡ points goods atoms
  points_again goods atoms on = points_same goods (points goods atoms) atoms (points_keep_values goods atoms on)

  -- points do not depend on the number of goods
  pub points_any_goods : (fewer more : ℕ) (atoms : List (Atom (List ℕ))) → All (On fewer) atoms → All (On more) atoms → points fewer atoms ≡ points more atoms
  points_any_goods fewer more atoms on there =
      same_in_order (points fewer atoms) (points more atoms) (points_where-in_order (passes fewer atoms) (value atoms) fewer)
      (points_where-in_order (passes more atoms) (value atoms) more) (moved fewer more on there) (moved more fewer there on)
    where
      moved : (goods others : ℕ) → All (On goods) atoms → All (On others) atoms → (a : Atom (List ℕ)) → Contains (points goods atoms) a
          → Contains (points others atoms) a
      moved goods others o q a c =
          let p = points_where-are (passes goods atoms) (value atoms) goods a c in
          let test = V.from_test goods atoms a.bundle p.bundle p.chosen in
          points_where-has (passes others atoms) (value atoms) others a (record {
            bundle = V.on others a
                (All-contains (On others) atoms a q (All-contains (Contains atoms) (points goods atoms) a (points_are_atoms goods atoms o) c));
            chosen = V.test_true others atoms a.bundle test.0 test.1;
            price = p.price;
          })
