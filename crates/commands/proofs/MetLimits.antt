-- Which limit is met. Limits refuse a bundle first, and then the file is searched again, with a total that leaves one search more all its steps. All bundles
-- before it are searched as before, so this one is refused again exactly if its search alone takes more steps than one may. It comes once, so a later
-- bundle that is refused is another one.
use Rattle.commands.proofs.Common.{arith, rules, ◌≡◌, ℕ, ◌<◌, ◌≤◌, true, false, ltb, lt-ltb, le-ltb, min, List, [], ◌∷◌, sym, ap, ◌∙◌, subst, ⊎_elim}
use Rattle.commands.proofs.Common.{Option, Some, None, All-contains, Atom, SearchOptions, search_steps_by, searched_bundles, pointwise, nat_eq}
use Rattle.std.proofs.Common.{◌-◌, Less}
use Rattle.std.specs.Prelude.{AllPairs}
use Rattle.std.proofs.lemmas.Bool.{cases_Bool, cases_lt}
use Rattle.std.proofs.lemmas.List.Kept.{AllPairs-filter}
use Rattle.std.proofs.lemmas.Slice.Eq.{bytes_eq-Decides}
use Rattle.goods_set.specs.Orders.{bundle_cmp}
use Rattle.goods_set.specs.Lemmas.AllBundles.{all_bundles_rise}
use Rattle.goods_set.specs.Lemmas.Orders.{bundle_cmp_strict}
use Rattle.valuation.specs.Lemmas.Lists.{AllPairs-head, AllPairs-tail}
use Rattle.valuation.specs.SearchLimits.{least_of, total_after}
use Rattle.valuation.specs.declared.search.kind.SearchKind.{SearchKind}
use Rattle.prune.specs.Lemmas.Refusals.{first_over-refused, first_over-within, refused_over}
use Rattle.prune.specs.SearchSteps.{first_over, first_refused}
use Rattle.commands.specs.Internal.WiderTotals.{IsWider}
use Rattle.commands.proofs.NamedBids.{over_is_searched}

-- ---- a wider total

at_most_each : (each : ℕ) (total : Option ℕ) → least_of total each ≤ each
at_most_each each None = omega arith
at_most_each each (Some total) = omega arith

leaves_each : (each left : ℕ) (wider : Option ℕ) → IsWider each (Some left) wider → (n : ℕ) → n ≤ each → n ≤ least_of wider each
leaves_each each left None w n l = l
leaves_each each left (Some more) w n l = omega (arith, w)

wider_after : (each left steps : ℕ) (wider : Option ℕ) → IsWider each (Some left) wider → steps ≤ left
    → IsWider each (Some (left - steps)) (total_after wider steps)
wider_after each left steps None w l = tt
wider_after each left steps (Some more) w l = omega (arith, w)

-- ---- the second search of the bundles

abbrev IsEarlier : List ℕ → List ℕ → Type 0
IsEarlier bundle later = bundle_cmp bundle later ≡ Less

module _ (steps : List ℕ → ℕ) (kind : SearchKind) (each : ℕ) where
  abbrev limits : Option ℕ → SearchOptions
  limits total = record { kind = kind; each = each; total = total }

  over_again : (bundles : List (List ℕ)) (left : ℕ) (wider : Option ℕ) (bundle : List ℕ) → IsWider each (Some left) wider
      → first_over steps (limits (Some left)) bundles ≡ Some bundle → each < steps bundle → first_over steps (limits wider) bundles ≡ Some bundle
  unfolding first_over
  over_again [] left wider bundle w e over = absurd cc
  over_again (x ∷ rest) left wider bundle w e over =
      ⊎_elim
      (λ (l : min left each < steps x).
      let same : Some x ≡ Some bundle = sym (first_over-refused steps (limits (Some left)) x rest l) ∙ e in
      let is : bundle ≡ x = cc in
      let more : each < steps x = subst (λ (b : List ℕ). each < steps b) is over in
      let most = at_most_each each wider in
      first_over-refused steps (limits wider) x rest (omega (arith, more, most)) ∙ same)
      (λ (l : steps x ≤ min left each).
      first_over-within steps (limits wider) x rest (leaves_each each left wider w (steps x) (omega (arith, l)))
      ∙ over_again rest (left - steps x) (total_after wider (steps x)) bundle (wider_after each left (steps x) wider w (omega (arith, l)))
      (sym (first_over-within steps (limits (Some left)) x rest l) ∙ e) over)
      (cases_lt (min left each) (steps x))

  within_once : (bundles : List (List ℕ)) (left : ℕ) (wider : Option ℕ) (bundle : List ℕ) → IsWider each (Some left) wider → AllPairs IsEarlier bundles
      → first_over steps (limits (Some left)) bundles ≡ Some bundle → steps bundle ≤ each → first_over steps (limits wider) bundles ≡ Some bundle → ⊥
  unfolding first_over
  within_once [] left wider bundle w s e within again = absurd cc
  within_once (x ∷ rest) left wider bundle w s e within again =
      ⊎_elim
      (λ (l : min left each < steps x).
      let same : Some x ≡ Some bundle = sym (first_over-refused steps (limits (Some left)) x rest l) ∙ e in
      let is : bundle ≡ x = cc in
      let few : steps x ≤ each = subst (λ (b : List ℕ). steps b ≤ each) is within in
      let later : first_over steps (limits (total_after wider (steps x))) rest ≡ Some bundle =
      sym (first_over-within steps (limits wider) x rest (leaves_each each left wider w (steps x) few)) ∙ again in
      let behind = All-contains (IsEarlier x) rest bundle (AllPairs-head IsEarlier x rest s)
      (over_is_searched steps (limits (total_after wider (steps x))) rest bundle later) in
      bundle_cmp_strict.irreflexive x (subst (λ (b : List ℕ). IsEarlier x b) is behind))
      (λ (l : steps x ≤ min left each).
      within_once rest (left - steps x) (total_after wider (steps x)) bundle (wider_after each left (steps x) wider w (omega (arith, l)))
      (AllPairs-tail IsEarlier x rest s) (sym (first_over-within steps (limits (Some left)) x rest l) ∙ e) within
      (sym (first_over-within steps (limits wider) x rest (leaves_each each left wider w (steps x) (omega (arith, l)))) ∙ again))
      (cases_lt (min left each) (steps x))

-- ---- the second search of the file

module _ (kind : SearchKind) (each goods : ℕ) (atoms : List (Atom (List ℕ))) (bundle : List ℕ) where
  abbrev options : Option ℕ → SearchOptions
  options total = record { kind = kind; each = each; total = total }

  abbrev alone : ℕ
  alone = search_steps_by kind goods atoms bundle

  -- without a total the bundle is refused for its own steps
  over_without : first_refused (options None) goods atoms ≡ Some bundle → each < alone
  unfolding first_refused
  over_without e =
      ⊎_elim (λ (l : each < alone). l) (λ (r : (most : ℕ) × (None ≡ Some most) × _). absurd (let n : None ≡ Some r.0 = r.1 in cc))
      (refused_over (search_steps_by kind goods atoms) (searched_bundles goods atoms) (options None) bundle e)

  refused_again : (total wider : Option ℕ) → IsWider each total wider → first_refused (options total) goods atoms ≡ Some bundle → each < alone
      → first_refused (options wider) goods atoms ≡ Some bundle
  unfolding first_refused
  refused_again None None w e over = e
  refused_again None (Some wider) w e over = absurd w
  refused_again (Some left) wider w e over = over_again (search_steps_by kind goods atoms) kind each (searched_bundles goods atoms) left wider bundle w e over

  refused_once : (total wider : Option ℕ) → IsWider each total wider → first_refused (options total) goods atoms ≡ Some bundle → alone ≤ each
      → first_refused (options wider) goods atoms ≡ Some bundle → ⊥
  unfolding first_refused
  refused_once None None w e within again = let over = over_without e in omega (arith, over, within)
  refused_once None (Some wider) w e within again = absurd w
  refused_once (Some left) wider w e within again =
      within_once (search_steps_by kind goods atoms) kind each (searched_bundles goods atoms) left wider bundle w
      (search (rules, AllPairs-filter, all_bundles_rise)) e within again

  module _ (total wider : Option ℕ) (w : IsWider each total wider) (e : first_refused (options total) goods atoms ≡ Some bundle) where
    -- nothing is refused by the wider total
    pub none_again : first_refused (options wider) goods atoms ≡ None → false ≡ ltb each alone
    none_again none =
        ⊎_elim (λ (l : each < alone). let again = refused_again total wider w e l in absurd (let n : Some bundle ≡ None = sym again ∙ none in cc))
        (λ (l : alone ≤ each). sym (le-ltb each alone l)) (cases_lt each alone)

    -- this bundle is refused, which may be the same one
    pub found_again : (found : List ℕ) → first_refused (options wider) goods atoms ≡ Some found → pointwise nat_eq found bundle ≡ ltb each alone
    found_again found there =
        ⊎_elim
        (λ (l : each < alone).
        let same : Some bundle ≡ Some found = sym (refused_again total wider w e l) ∙ there in
        let is : found ≡ bundle = cc in
        (bytes_eq-Decides found bundle).1 is ∙ sym (lt-ltb each alone l))
        (λ (l : alone ≤ each).
        ⊎_elim
        (λ (t : pointwise nat_eq found bundle ≡ true).
        let is : found ≡ bundle = (bytes_eq-Decides found bundle).0 t in
        absurd (refused_once total wider w e l (there ∙ ap Some is)))
        (λ (f : pointwise nat_eq found bundle ≡ false). f ∙ sym (le-ltb each alone l)) (cases_Bool (pointwise nat_eq found bundle)))
        (cases_lt each alone)
