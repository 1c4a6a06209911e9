-- Exchanging the auctions. The idea: the changes of two lists of bids are determined by the prices, since they are in order and on exactly
-- the bundles on which the prices differ.
use Rattle.analysis.proofs.Common.{rules, ◌≡◌, ℕ, List, map, sym, ◌∙◌, subst, Contains, All-contains, All-map, All-weaker, Atom, AllPairs-map, Contains-map, []}
use Rattle.analysis.proofs.Common.{Contains-unmap, PlainChange, IsPriceChange, ArePriceChanges, exchanged_change, IsEarlier, ◌∷◌, Ordering, Less, AllPairs}
use Rattle.analysis.proofs.Common.{AllPairs-head, AllPairs-tail, recursion_from_All, bundle_cmp}
use Rattle.std.specs.List.Sorted.{IsStrictlySortedBy}
use Rattle.goods_set.specs.Lemmas.Orders.{bundle_cmp_strict}
use Rattle.goods_set.specs.Lemmas.Sorted.{same_from_contains}

abbrev by_bundle : PlainChange → PlainChange → Ordering
by_bundle c d = bundle_cmp c.bundle d.bundle

strictly : (changes : List PlainChange) → AllPairs IsEarlier changes → IsStrictlySortedBy by_bundle changes
unfolding IsStrictlySortedBy
strictly [] s = tt
strictly (c ∷ cs) s = (recursion_from_All (λ d. by_bundle c d ≡ Less) cs (AllPairs-head IsEarlier c cs s), strictly cs (AllPairs-tail IsEarlier c cs s))

module _ (left right : List (Atom (List ℕ))) where
  -- two changes on one bundle are one
  same_on_bundle : (c d : PlainChange) → IsPriceChange left right c → IsPriceChange left right d → c.bundle ≡ d.bundle → d ≡ c
  same_on_bundle c d h k e = search (rules)

  -- a change of the bids is among all of them
  pub change_is_there : (changes : List PlainChange) → ArePriceChanges left right changes → (c : PlainChange) → IsPriceChange left right c → Contains changes c
  change_is_there changes are c h = let there = are.all c.bundle (λ e. h.differ (h.on_left ∙ e ∙ sym h.on_right)) in
      let found = Contains-unmap (λ (d : PlainChange). d.bundle) changes c.bundle there in
      search (rules, same_on_bundle, All-contains)

  pub one_list_of_changes : (changes others : List PlainChange) → ArePriceChanges left right changes → ArePriceChanges left right others → changes ≡ others
  one_list_of_changes changes others are also =
      same_from_contains by_bundle (search (rules, bundle_cmp_strict)) changes others (strictly changes are.in_order) (strictly others also.in_order)
      (search (rules, change_is_there, All-contains))
      (search (rules, change_is_there, All-contains))

  exchanged_is_change : (c : PlainChange) → IsPriceChange left right c → IsPriceChange right left (exchanged_change c)
  exchanged_is_change c h = record { on_left = h.on_right; on_right = h.on_left; differ = λ e. h.differ (sym e) }

  pub exchanged_are_changes : (changes : List PlainChange) → ArePriceChanges left right changes → ArePriceChanges right left (map exchanged_change changes)
  exchanged_are_changes changes are = record {
    in_order = search (rules, AllPairs-map);
    each = search (rules, All-map, All-weaker, exchanged_is_change);
    all = λ bundle n.
        let found = Contains-unmap (λ (d : PlainChange). d.bundle) changes bundle (are.all bundle (λ e. n (sym e))) in
        subst (λ (b : List ℕ). Contains (map (λ (d : PlainChange). d.bundle) (map exchanged_change changes)) b) (sym found.2)
        (Contains-map (λ (d : PlainChange). d.bundle) (map exchanged_change changes) (exchanged_change found.0)
        (Contains-map exchanged_change changes found.0 found.1));
  }

pub bundles_exchanged : (left right : List (Atom (List ℕ))) (one other : List PlainChange) → ArePriceChanges left right one
    → ArePriceChanges right left other → other ≡ map exchanged_change one
bundles_exchanged left right one other are also = search (rules, one_list_of_changes, exchanged_are_changes)
