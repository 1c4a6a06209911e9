-- The names from outside `proofs` that the proofs cite, passed on from one place. A definition that a proof unfolds comes from its own file. Declares nothing.
pub use Rattle.bid_file.specs.declared.limits.TheConstants.{MAX_GOODS}
pub use Rattle.goods_set.specs.Bundles.{IsInside, is_inside, IsRising, has_good, good_from, AreAbove, all_bundles}
pub use Rattle.goods_set.specs.Lemmas.AllBundles.{all_bundles_has, all_bundles_sorted}
pub use Rattle.goods_set.specs.Lemmas.Members.{inside_refl, has_cases, has-filter, AreAbove-from_has, IsRising-filter, same_from_has, inside_at, has_head}
pub use Rattle.goods_set.specs.Lemmas.Members.{has_tail}
pub use Rattle.goods_set.specs.Lemmas.Orders.{bundle_cmp_total, bundle_cmp_refl, bundle_cmp_equal, nat_cmp-lt, bundle_cmp_strict}
pub use Rattle.goods_set.specs.Lemmas.Sizes.{IsNextGood, good_from-Some, good_from-None}
pub use Rattle.goods_set.specs.Lemmas.Sorted.{same_from_contains}
pub use Rattle.goods_set.specs.Lemmas.Words.{range_has, range_rises}
pub use Rattle.goods_set.specs.Orders.{bundle_cmp}
pub use Rattle.prune.specs.Fates.{best_bids, indices_below, plain_fate, ordered, or_fate, xor_fate}
pub use Rattle.prune.specs.Faults.{IfStepLimit}
pub use Rattle.prune.specs.InOrder.{IsBefore, IsInOrder}
pub use Rattle.prune.specs.Internal.BestBids.{bid_cmp, AreBestBids}
pub use Rattle.prune.specs.Internal.Fingerprints.{AreMarks, mark_of}
pub use Rattle.prune.specs.Internal.Listings.{indices_at, dominates, dominates_at, first_dominating_index, listed_at, AreListed, MayBePosting}
pub use Rattle.prune.specs.Internal.Listings.{IsListed, IsPosting, IsBehind, ComesNext, lists_of, indices_of, IsIndexOf}
pub use Rattle.prune.specs.Internal.Reaching.{found_inside, steps_for, IsFinderOf}
pub use Rattle.prune.specs.Lemmas.Fates.{or_fate-push, xor_fate-push, atoms_below-push, or_fate-reaches, xor_fate-reaches}
pub use Rattle.prune.specs.Lemmas.InOrder.{before_not_inside, same_bundle_same_atom}
pub use Rattle.prune.specs.Lemmas.KeptBids.{contains_from_has, has_from_contains, on_bundles, xor_is_value, or_is_value, xor_points_same}
pub use Rattle.prune.specs.Lemmas.KeptBids.{or_points_same, xor_points_any_goods, or_points_any_goods, just_bundles, xor_points_are_atoms}
pub use Rattle.prune.specs.Lemmas.KeptBids.{or_points_are_atoms, xor_points_keep_values, or_points_keep_values, xor_points_again, or_points_again}
pub use Rattle.prune.specs.Lemmas.Lists.{Contains-nil, Contains-head, Contains-tail, Contains-filter, Contains-filter_parts, All-from_Contains}
pub use Rattle.prune.specs.Lemmas.Lists.{is_some-find_map, filter_same_on, find_filter, map_same_on, list_any_filter, zero_or_more}
pub use Rattle.prune.specs.Lemmas.OnBundles.{IsOnBundle}
pub use Rattle.prune.specs.Lemmas.PackingIndices.{map-reverse, reversed_within}
pub use Rattle.prune.specs.Lemmas.Points.{xor_points_are, or_points_are}
pub use Rattle.prune.specs.Lemmas.Ranges.{first_in_range, none_in_range, in_range}
pub use Rattle.prune.specs.Lemmas.Refusals.{first_over-refused, first_over-within, first_refused_any_goods, first_heavy_any_goods, no_refused_point}
pub use Rattle.prune.specs.Lemmas.Refusals.{no_heavy_point, none_refused, none_refused-from, first_refused-plain, refused_load, step_limit_weaker}
pub use Rattle.prune.specs.Lemmas.SameBids.{first_refused-same_bids}
pub use Rattle.prune.specs.Lemmas.SearchSteps.{greatest_price-member, greatest_price-reached, search_steps-point, no_new_heavy, search_within_packings}
pub use Rattle.prune.specs.Lemmas.SearchSteps.{search_within_bound, ordered_value}
pub use Rattle.prune.specs.Lemmas.Tables.{no_xor_points, no_or_points, same_xor_points, same_or_points}
pub use Rattle.prune.specs.Lemmas.ValuePoints.{IsValue, kept_are_points, points_same}
pub use Rattle.prune.specs.Points.{or_points, xor_points, points_where}
pub use Rattle.prune.specs.SearchSteps.{atoms_below, greatest_price, is_below, in_search_order, searched_bundles, first_heavy, first_refused, steps_at_most}
pub use Rattle.prune.specs.declared.subset_index.Posting.{Posting}
pub use Rattle.std.proofs.Common.{rules, ◌≡◌, ℕ, ◌+◌, ◌<◌, ◌≤◌, Bool, true, false, cond, ltb, ◌⊎◌, inl, inr, ⊎_elim, List, [], ◌∷◌, map, length, get_or, refl}
pub use Rattle.std.proofs.Common.{sym, ap, ap₂, ◌∙◌, subst, arith, le_refl, Ordering, Less, Equal, Greater, is_lt, nat_cmp, leb, take, Some, None, ◌≢◌, zero}
pub use Rattle.std.proofs.Common.{suc, append_assoc, eqb, ◌++◌, subst₂, ◌*◌, ◌%◌, ◌-◌, ◌^◌, min, drop, set, not, le_trans, le_antisymm, reverse, Err}
pub use Rattle.std.proofs.Common.{append-nil, vec_len}
pub use Rattle.std.proofs.lemmas.Bool.{cases_Bool, cases_lt, both_ways, false_from_ne_true, ltb-true, lt-ltb, cond-true, cond-false, cases_eq, and_parts}
pub use Rattle.std.proofs.lemmas.Bool.{and_from, and_right, eqb-true, eq-eqb, le-leb, lt-leb, and_left, not_from_true, ltb-false, leb-true, leb-false}
pub use Rattle.std.proofs.lemmas.Bool.Decides.{Decides-eqb}
pub use Rattle.std.proofs.lemmas.Cmp.{on_total, then_total, back_total, nat_cmp_total}
pub use Rattle.std.proofs.lemmas.Fn.{filter_same, dedup_same, always_returns_same}
pub use Rattle.std.proofs.lemmas.Grind.{common_steps}
pub use Rattle.std.proofs.lemmas.List.{length-map, get_or-map, get_or-take, get_or_default, length-take, take-map, map_push, get_or_append_left, get_or_push}
pub use Rattle.std.proofs.lemmas.List.{length_push, take_more, take_all, take-set-le, take_more_set, drop-set-lt, drop_more, take-append-drop, map-append}
pub use Rattle.std.proofs.lemmas.List.{drop_all, map-set, get_or_read, length-take-le}
pub use Rattle.std.proofs.lemmas.List.Edits.{swap_is}
pub use Rattle.std.proofs.lemmas.List.Elements.{All-head, All-tail, All-from_recursion, All-contains, filter_more, Contains-get_or, All-append, All-weaker}
pub use Rattle.std.proofs.lemmas.List.Elements.{Contains-append_left, Contains-push, Contains-append_right, Contains-push_cases, All-push, All-nil, All-cons}
pub use Rattle.std.proofs.lemmas.List.Elements.{filter_passes}
pub use Rattle.std.proofs.lemmas.List.FromFn.{fill_by_all}
pub use Rattle.std.proofs.lemmas.List.Kept.{IsStrictlySortedBy-dedup, Contains-from_dedup, AllPairs-from_increasing, AllPairs-filter}
pub use Rattle.std.proofs.lemmas.List.Kept.{IsStrictlySortedBy-filter}
pub use Rattle.std.proofs.lemmas.List.Quantifiers.{all_pairs_push}
pub use Rattle.std.proofs.lemmas.List.Sorted.{sorted_far, ranks_by, Contains-permutation, IsPermutation-sym, IsPermutation-map, IsNonDecreasingBy-from_sort}
pub use Rattle.std.proofs.lemmas.List.Sorted.{All-permutation, IsPermutation-reverse, IsPermutation-trans, IsPermutation-swap}
pub use Rattle.std.proofs.lemmas.Map.Keys.{IsDistinct-IsPermutation, IsStrictlyIncreasing-from_distinct}
pub use Rattle.std.proofs.lemmas.Map.Made.{IsDistinct-from_AllPairs}
pub use Rattle.std.proofs.lemmas.Nat.{and_le_l}
pub use Rattle.std.proofs.lemmas.Nat.Bits.{bit_at-lt, bit_at_and, bit_at_not, bit_at-zero, bit_at-trailing_zeros, bit_at_set_same, bit_at_set_other}
pub use Rattle.std.proofs.lemmas.Nat.Bits.{bit_at-pow_same, bit_at-pow_other}
pub use Rattle.std.proofs.lemmas.Option.{slice_get-get_or, slice_get_past}
pub use Rattle.std.proofs.lemmas.Result.{IfOk-weaker, IfErr-weaker}
pub use Rattle.std.proofs.lemmas.Simd.{map-map}
pub use Rattle.std.specs.Cmp.{IsTotalOrder}
pub use Rattle.std.specs.Global.{Vec}
pub use Rattle.std.specs.Int.{bit_at, bit_not, trailing_zeros, w128}
pub use Rattle.std.specs.Int.RustNames.{bit_and, bit_or}
pub use Rattle.std.specs.List.{filter, dedup, dedup_from, list_any, range_with_len, slice_get, find, swap, AllByRecursion}
pub use Rattle.std.specs.List.Sorted.{IsSortedBy, IsSorted}
pub use Rattle.std.specs.Ordering.{is_eq, ordering_then}
pub use Rattle.std.specs.Prelude.{AllPairs, Contains, IsPermutation, All, is_some, Option, IfSome, Result}
pub use Rattle.valuation.proofs.SearchesInTurn.{are_refused, are_searched}
pub use Rattle.valuation.specs.Auctions.{IsAtom}
pub use Rattle.valuation.specs.Examples.{atom}
pub use Rattle.valuation.specs.Lemmas.Inside.{atoms_at-indices_inside, indices_inside-within}
pub use Rattle.valuation.specs.Lemmas.Atoms.{length-atoms_of, get_or-atoms_of}
pub use Rattle.valuation.specs.Lemmas.Listed.{MaySearch-more}
pub use Rattle.valuation.specs.Lemmas.Lists.{Contains-cons_cases, AllPairs-nil, AllPairs-cons, AllPairs-head, AllPairs-tail, AllPairs-map, AllPairs-append}
pub use Rattle.valuation.specs.Lemmas.Lists.{Contains-map, Contains-unmap, map-filter}
pub use Rattle.valuation.specs.Lemmas.SearchLimits.{is_one_over-one, options_after_all-one}
pub use Rattle.valuation.specs.Lemmas.XorValues.{xor_value-nil, xor_value-inside}
pub use Rattle.valuation.specs.Packings.{atom_at, atoms_inside, atoms_at, indices_inside, is_inside_at, numbers_at}
pub use Rattle.valuation.specs.SearchLimits.{is_one_over, options_after, options_after_all, plain_options}
pub use Rattle.valuation.specs.SearchSteps.{found_indices}
pub use Rattle.valuation.specs.Searches.{steps_of, AreSearched, IsFound, IsSearchedBy}
pub use Rattle.valuation.specs.Values.{atoms_of, plain_atom, or_value, xor_value}
pub use Rattle.valuation.specs.declared.atom.Atom.{Atom}
pub use Rattle.valuation.specs.declared.packing.ValueFault.{ValueFault}
pub use Rattle.valuation.specs.declared.search.kind.SearchKind.{SearchKind}
pub use Rattle.valuation.specs.declared.search.kind.SearchKind.TheVariants.{Plain, Bounded}
pub use Rattle.valuation.specs.declared.search.options.SearchOptions.{SearchOptions}
