-- Points and tables of values say the same: points are empty exactly if the table is all zeros, and tables are equal exactly
-- if the points are.
use Rattle.std.proofs.Common.{rules, ◌≡◌, ℕ, false, not, eqb, Bool, List, [], map, sym, ap, ◌∙◌, arith}
use Rattle.std.specs.Prelude.{All, ◌↔◌}
use Rattle.std.proofs.lemmas.Bool.{not-false, eqb-true, eq-eqb, not_from_true}
use Rattle.std.proofs.lemmas.List.Elements.{All-map}
use Rattle.std.proofs.lemmas.List.Folds.{list_any_none}
use Rattle.goods_set.specs.Bundles.{IsBundle, all_bundles}
use Rattle.goods_set.specs.Lemmas.AllBundles.{all_bundles_are, all_bundles_has}
use Rattle.valuation.specs.declared.atom.Atom.{Atom}
use Rattle.valuation.specs.Tables.{xor_table, or_table, is_nonzero}
use Rattle.valuation.specs.Lemmas.Lists.{Contains-map}
use Rattle.valuation.specs.Lemmas.XorValues.{xor_value-nil}
use Rattle.valuation.specs.Lemmas.OrValues.{or_value-nil}
use Rattle.prune.specs.Lemmas.OnBundles.{IsOnBundle}
use Rattle.prune.specs.Points.{points_where, xor_points, or_points}
use Rattle.prune.specs.Lemmas.Lists.{nil_from_none, All-from_Contains, map_same_on, map_same_at, list_any_fails}
use Rattle.prune.specs.Lemmas.Points.{points_where-are}
use Rattle.prune.specs.Lemmas.KeptBids.{just_bundles, xor_is_value, or_is_value}
use Rattle.prune.specs.Lemmas.ValuePoints.{IsValue, points_same, points_keep_values}

-- ---- tables of any values

-- a table without an entry above 0, and a value of 0 on each bundle over the goods
table_zero : (value : List ℕ → ℕ) (goods : ℕ) → ((bundle : List ℕ) → IsBundle goods bundle → value bundle ≡ 0) → is_nonzero (map value (all_bundles goods))
    ≡ false
table_zero value goods h = search (rules, list_any_none, All-map, All-from_Contains, not_from_true, eq-eqb, all_bundles_are)

zero_at : (value : List ℕ → ℕ) (goods : ℕ) → is_nonzero (map value (all_bundles goods)) ≡ false → (bundle : List ℕ) → IsBundle goods bundle → value bundle ≡ 0
zero_at value goods e bundle b =
    eqb-true (value bundle) 0 (not-false (eqb (value bundle) 0)
    (list_any_fails (λ n. not (eqb n 0)) (map value (all_bundles goods)) e (value bundle)
    (Contains-map value (all_bundles goods) bundle (all_bundles_has goods bundle b))))

-- equal tables, and equal values on each bundle over the goods
table_same : (one other : List ℕ → ℕ) (goods : ℕ) → ((bundle : List ℕ) → IsBundle goods bundle → one bundle ≡ other bundle)
    → map one (all_bundles goods) ≡ map other (all_bundles goods)
table_same one other goods h = search (rules, map_same_on, All-from_Contains, all_bundles_are)

same_at : (one other : List ℕ → ℕ) (goods : ℕ) → map one (all_bundles goods) ≡ map other (all_bundles goods) → (bundle : List ℕ) → IsBundle goods bundle
    → one bundle ≡ other bundle
same_at one other goods e bundle b = map_same_at one other (all_bundles goods) e bundle (all_bundles_has goods bundle b)

-- ---- points by any value

module _ {X : Type 0} {On : ℕ → Atom (List ℕ) → Type 0} {value : List (Atom (List ℕ)) → List ℕ → ℕ} {Splits : List ℕ → X → Type 0}
    {worth : (List ℕ → ℕ) → List ℕ → X → ℕ} {passes : ℕ → List (Atom (List ℕ)) → List ℕ → Bool} (V : IsValue On value Splits worth passes)
    (goods : ℕ)
  where
    -- there are none exactly if all values are 0
    no_points : ((bundle : List ℕ) → value [] bundle ≡ 0) → (atoms : List (Atom (List ℕ))) → All (On goods) atoms
        → (points_where (passes goods atoms) (value atoms) goods ≡ [] ↔ is_nonzero (map (value atoms) (all_bundles goods)) ≡ false)
    no_points nil atoms on =
        let points = points_where (passes goods atoms) (value atoms) goods in (
          λ e. table_zero (value atoms) goods
              (λ bundle b. sym (points_keep_values V goods atoms on bundle b) ∙ ap (λ (zs : List (Atom (List ℕ))). value zs bundle) e ∙ nil bundle),
          λ e. nil_from_none points (λ a c.
              let p = points_where-are (passes goods atoms) (value atoms) goods a c in
              let positive = (V.from_test goods atoms a.bundle p.bundle p.chosen).0 in
              let none : value atoms a.bundle ≡ 0 = zero_at (value atoms) goods e a.bundle p.bundle in
              omega arith),
        )

    -- they are the same exactly if the values are
    same_points : (one other : List (Atom (List ℕ))) → All (On goods) one → All (On goods) other → (map (value one) (all_bundles goods)
        ≡ map (value other) (all_bundles goods) ↔ points_where (passes goods one) (value one) goods ≡ points_where (passes goods other) (value other) goods)
    same_points one other on there = (
      λ e. points_same V goods one other (same_at (value one) (value other) goods e),
      λ e. table_same (value one) (value other) goods (λ bundle b. sym (points_keep_values V goods one on bundle b)
          ∙ ap (λ (zs : List (Atom (List ℕ))). value zs bundle) e ∙ points_keep_values V goods other there bundle b),
    )

-- ---- XOR and OR points

pub no_xor_points : (goods : ℕ) (atoms : List (Atom (List ℕ))) → All (IsOnBundle goods) atoms
    → (xor_points goods atoms ≡ [] ↔ is_nonzero (xor_table atoms goods) ≡ false)
no_xor_points goods atoms on = no_points xor_is_value goods xor_value-nil atoms (just_bundles goods atoms on)

pub same_xor_points : (goods : ℕ) (one other : List (Atom (List ℕ))) → All (IsOnBundle goods) one → All (IsOnBundle goods) other
    → (xor_table one goods ≡ xor_table other goods ↔ xor_points goods one ≡ xor_points goods other)
same_xor_points goods one other on there = same_points xor_is_value goods one other (just_bundles goods one on) (just_bundles goods other there)

pub no_or_points : (goods : ℕ) (atoms : List (Atom (List ℕ))) → All (IsOnBundle goods) atoms
    → (or_points goods atoms ≡ [] ↔ is_nonzero (or_table atoms goods) ≡ false)
no_or_points goods = no_points or_is_value goods or_value-nil

pub same_or_points : (goods : ℕ) (one other : List (Atom (List ℕ))) → All (IsOnBundle goods) one → All (IsOnBundle goods) other
    → (or_table one goods ≡ or_table other goods ↔ or_points goods one ≡ or_points goods other)
same_or_points = same_points or_is_value
