-- Lists with the same bids, in any order and any of them more than once. They have the same values and greatest prices, so the same bundles are searched
-- in the same steps.
use Rattle.std.proofs.Common.{rules, ◌≡◌, ℕ, ◌≤◌, ltb, List, ap, ◌∙◌, subst, le_antisymm}
use Rattle.std.specs.Prelude.{All, Contains, ◌↔◌}
use Rattle.goods_set.specs.Bundles.{all_bundles}
use Rattle.goods_set.specs.Lemmas.Members.{inside_refl}
use Rattle.valuation.specs.declared.atom.Atom.{Atom}
use Rattle.valuation.specs.declared.search.kind.SearchKind.{SearchKind}
use Rattle.valuation.specs.declared.search.options.SearchOptions.{SearchOptions}
use Rattle.valuation.specs.Values.{or_value}
use Rattle.valuation.specs.Lemmas.OrValues.{or_value-price}
use Rattle.prune.specs.Points.{or_points}
use Rattle.prune.specs.SearchSteps.{greatest_price, search_steps_by, searched_bundles, first_over, first_refused}
use Rattle.prune.specs.Lemmas.KeptBids.{all_nonempty, or_points_same}
use Rattle.prune.specs.Lemmas.Lists.{All-from_Contains, filter_same_on}
use Rattle.prune.specs.Lemmas.OnBundles.{IsOnBundle}
use Rattle.prune.specs.Lemmas.Refusals.{same_steps}
use Rattle.prune.specs.Lemmas.SearchSteps.{greatest_price-member, greatest_price-bound}
use Rattle.prune.specs.Lemmas.Values.{or_value-dominated}

greatest_price-among : (one other : List (Atom (List ℕ))) → ((a : Atom (List ℕ)) → Contains one a → Contains other a) → (bundle : List ℕ)
    → greatest_price one bundle ≤ greatest_price other bundle
greatest_price-among one other among bundle = greatest_price-bound one bundle (greatest_price other bundle)
    (All-from_Contains (λ a. a.bundle ≡ bundle → a.price ≤ greatest_price other bundle) one (λ a c e.
    subst (λ (xs : List ℕ). a.price ≤ greatest_price other xs) e (greatest_price-member other a (among a c))))

or_value-among : (goods : ℕ) (one other : List (Atom (List ℕ))) → All (IsOnBundle goods) other
    → ((a : Atom (List ℕ)) → Contains one a → Contains other a) → (bundle : List ℕ) → or_value one bundle ≤ or_value other bundle
or_value-among goods one other on among bundle = or_value-dominated other (all_nonempty goods other on) one
    (All-from_Contains (λ a. a.price ≤ or_value other a.bundle) one (λ a c. or_value-price other a (among a c) a.bundle (inside_refl a.bundle))) bundle

module _ (goods : ℕ) (one other : List (Atom (List ℕ))) (on : All (IsOnBundle goods) one) (there : All (IsOnBundle goods) other)
    (same : (a : Atom (List ℕ)) → (Contains one a ↔ Contains other a)) where
  same_prices : (bundle : List ℕ) → greatest_price one bundle ≡ greatest_price other bundle
  same_prices bundle =
      le_antisymm (greatest_price-among one other (λ a. (same a).0) bundle) (greatest_price-among other one (λ a. (same a).1) bundle)

  same_points : or_points goods one ≡ or_points goods other
  same_points = or_points_same goods one other (λ bundle b.
      le_antisymm (or_value-among goods one other there (λ a. (same a).0) bundle) (or_value-among goods other one on (λ a. (same a).1) bundle))

  same_searches : searched_bundles goods one ≡ searched_bundles goods other
  same_searches = filter_same_on (λ bundle. ltb 0 (greatest_price one bundle)) (λ bundle. ltb 0 (greatest_price other bundle)) (all_bundles goods)
      (All-from_Contains (λ bundle. ltb 0 (greatest_price one bundle) ≡ ltb 0 (greatest_price other bundle)) (all_bundles goods)
      (λ bundle c. ap (ltb 0) (same_prices bundle)))

  same_search_steps : (kind : SearchKind) (bundle : List ℕ) → search_steps_by kind goods one bundle ≡ search_steps_by kind goods other bundle
  unfolding search_steps_by
  same_search_steps kind bundle = search (rules, same_prices, same_points)

  pub first_refused-same_bids : (options : SearchOptions) → first_refused options goods one ≡ first_refused options goods other
  unfolding first_refused
  first_refused-same_bids options = same_steps (search_steps_by options.kind goods one) (search_steps_by options.kind goods other)
      (same_search_steps options.kind) (searched_bundles goods one) options ∙ ap (first_over (search_steps_by options.kind goods other) options) same_searches
