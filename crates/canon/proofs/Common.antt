-- The names from outside `proofs` that the proofs cite, passed on from one place. A definition that a proof unfolds comes from its own file. Declares nothing.
pub use Rattle.bid_file.specs.Files.{PlainFile, IsPlainFile, PlainBid, IsDummyBelow, IsBid, IsBidFile}
pub use Rattle.bid_file.specs.Views.{seen_bid, plain_file}
pub use Rattle.bid_file.specs.declared.limits.TheConstants.{MAX_GOODS, MAX_DUMMY}
pub use Rattle.canon.specs.Answers.{RefusesAs, RefusesText, RefusesAuction, IsNormalFile, NormalisesPlainAs}
pub use Rattle.canon.specs.Bidders.{offers}
pub use Rattle.canon.specs.Canonical.{points_of_bidders, canonical_auction, canonical_file, bid_from, dummy_bids, file_from, canonical_bidders, canonical_text}
pub use Rattle.canon.specs.Canonical.{IsCanonical, IsCanonicalFile}
pub use Rattle.canon.specs.Comparing.{ComparesAs, Differ, IsNormalFileOf, ReadsNormalAs, RefusesOf, SpellsWithinLimit}
pub use Rattle.canon.specs.Difference.{Difference, NoDifference, first_difference, first_unequal_bundle, least_unequal_bidder, or_difference, xor_difference}
pub use Rattle.canon.specs.Difference.{InGoods, copies_of, exchanged, InOr, InXor}
pub use Rattle.canon.specs.FirstNumbers.{AddsStream, AddsText, IsEmptyIndex, IsFirstNumber, IsFirstText, IsIndexOf, LacksText, NumbersText, TextIndex}
pub use Rattle.canon.specs.FirstNumbers.{first_number, text_number}
pub use Rattle.canon.specs.Internal.BidderBids.{HasBidders, leading, AreBidsOf, IsFirstBidder}
pub use Rattle.canon.specs.Internal.BidderKeys.{bidder_key}
pub use Rattle.canon.specs.Internal.Fates.{AreFates}
pub use Rattle.canon.specs.Internal.KeyedBidders.{NumberedBidder, numbered_points, numbered_cmp, kept_numbers, numbered_from, points_of_numbered}
pub use Rattle.canon.specs.Internal.KeyedBidders.{keyed_bidders, keyed_bidder}
pub use Rattle.canon.specs.Internal.OrBids.{HasOrBids}
pub use Rattle.canon.specs.Internal.PriceWalks.{changes_of, side_at, if_differs, on_both, only_left, only_right}
pub use Rattle.canon.specs.Internal.TextNumbers.{number_of}
pub use Rattle.canon.specs.Least.{IsHeldBy, IsLeastFor}
pub use Rattle.canon.specs.Lemmas.BidderDifferences.{least_uneven, least_uneven_swap, all_even, none_of_same, IsLeastUneven, least_uneven_is, behind}
pub use Rattle.canon.specs.Lemmas.BidderDifferences.{parts_at_left}
pub use Rattle.canon.specs.Lemmas.Finding.{equal_from}
pub use Rattle.canon.specs.Lemmas.FirstChanges.{first_change_found, or_side, same_bids, side_of_change}
pub use Rattle.canon.specs.Lemmas.OrDifferences.{are_unequal, equal_from_test, unequal_swap, IsFirstUnequal, first_unequal, greater_is_point, eqb_swap}
pub use Rattle.canon.specs.Lemmas.OrDifferences.{ArePoints, equal_test, in_order}
pub use Rattle.canon.specs.Lemmas.PriceChanges.{AreLater, IsBehind, price_here, price_behind, no_price, past_change, past_same}
pub use Rattle.canon.specs.Lemmas.Renaming.{map-sorted, filter-map, sort_by-map, then_not_less, then_equal, dummy_cmp_total, nonzero_dummies, has_value}
pub use Rattle.canon.specs.Lemmas.Renaming.{points_of_nonzero, range_differs}
pub use Rattle.canon.specs.Lemmas.TextMaps.{same_order, updated}
pub use Rattle.canon.specs.Normalising.{Normalised, IsNoFile, ExceedsSteps, IsText, HasOutcome, IsNormalised, Normalises, SpellsCanonicalFile, unless_refused}
pub use Rattle.canon.specs.Normalising.{normalised_file}
pub use Rattle.canon.specs.PriceChanges.{PlainChange, IsPriceChange, ArePriceChanges, price_on, plain_change}
pub use Rattle.canon.specs.Refusals.{refusal_by_kind, refusal_of}
pub use Rattle.canon.specs.Renaming.{points_of_dummy, dummy_cmp, kept_dummies, named_bid, named_dummy, with_dummies}
pub use Rattle.canon.specs.Sameness.{has_table, AreSameFiles, IsSameAuction, AreSameTexts, bidders_with}
pub use Rattle.canon.specs.Unsearched.{unsearched_auction, AreAlike, AreAlikeAuctions, unsearched_file, unsearched_text}
pub use Rattle.canon.specs.Verdicts.{NamesGoods, plain_verdict, printed_atoms}
pub use Rattle.canon.specs.declared.canon_fault.CanonFault.{CanonFault}
pub use Rattle.canon.specs.declared.canon_fault.CanonFault.TheVariants.{Read, StepLimit, Memory}
pub use Rattle.canon.specs.declared.normal.named.BidderFates.{BidderFates}
pub use Rattle.canon.specs.declared.verdict.Side.{Side}
pub use Rattle.canon.specs.declared.verdict.Side.TheVariants.{Exactly, Below}
pub use Rattle.canon.specs.declared.verdict.Verdict.{Verdict}
pub use Rattle.canon.specs.declared.verdict.Verdict.TheVariants.{Same, Goods, Or, Xor}
pub use Rattle.canon.specs.declared.which.Which.{Which}
pub use Rattle.canon.specs.declared.which.Which.TheVariants.{Both}
pub use Rattle.cats_text.proofs.Spelling.Files.{spells_from_no_fault, no_fault_from_spells, spells_one}
pub use Rattle.cats_text.proofs.Texts.FaultKinds.{IsFound, first_fault-found}
pub use Rattle.cats_text.specs.Faults.{first_fault, is_text_kind}
pub use Rattle.cats_text.specs.FileLines.{spelled_file}
pub use Rattle.cats_text.specs.Grammar.{Spells}
pub use Rattle.cats_text.specs.Layout.{layout}
pub use Rattle.cats_text.specs.Reading.{WantsMemory}
pub use Rattle.cats_text.specs.Streams.{inner_of, ReadsFile, ReadsAs}
pub use Rattle.cats_text.specs.declared.read_fault.Kind.{Kind}
pub use Rattle.cats_text.specs.declared.read_fault.ReadFault.{ReadFault}
pub use Rattle.cats_text.specs.declared.stream.Watched.{Watched}
pub use Rattle.goods_set.specs.Bundles.{AreBelow, all_bundles, IsBundle, IsInside}
pub use Rattle.goods_set.specs.Lemmas.AllBundles.{all_bundles_has}
pub use Rattle.goods_set.specs.Lemmas.Members.{AreBelow-higher, inside_refl}
pub use Rattle.goods_set.specs.Lemmas.Orders.{nat_cmp-lt, nat_cmp-gt, nat_cmp-refl, bundle_cmp_total, bundle_cmp_equal}
pub use Rattle.goods_set.specs.Lemmas.SortKeys.{order_by_key}
pub use Rattle.goods_set.specs.Orders.{bundle_cmp}
pub use Rattle.goods_set.specs.SortKeys.{sort_key_of}
pub use Rattle.prune.specs.Fates.{or_fates, plain_fate, xor_fates}
pub use Rattle.prune.specs.InOrder.{IsBefore, IsInOrder}
pub use Rattle.prune.specs.Lemmas.InOrder.{before_itself}
pub use Rattle.prune.specs.Lemmas.KeptBids.{just_bundles, or_points_are_atoms, or_points_again, xor_points_are_atoms, xor_points_again, on_bundles}
pub use Rattle.prune.specs.Lemmas.KeptBids.{xor_points_keep_values, xor_points_same}
pub use Rattle.prune.specs.Lemmas.Lists.{zero_or_more, All-from_Contains, Contains-tail, Contains-head, filter-kept, filter-lost, Contains-filter}
pub use Rattle.prune.specs.Lemmas.Lists.{Contains-filter_parts, filter_same_on, map_same_on, find_none, found_none, map_same_at, find_alike}
pub use Rattle.prune.specs.Lemmas.Points.{points_where-in_order, IsOrPoint-from_test, is_or_point-true, or_points_are}
pub use Rattle.prune.specs.Lemmas.Ranges.{in_range}
pub use Rattle.prune.specs.Lemmas.Refusals.{no_refused_point, no_heavy_point, first_refused-plain, step_limit_weaker}
pub use Rattle.prune.specs.Lemmas.SameBids.{first_refused-same_bids}
pub use Rattle.prune.specs.Lemmas.SearchSteps.{no_new_heavy, search_steps-point}
pub use Rattle.prune.specs.Lemmas.Tables.{same_xor_points, same_or_points, no_xor_points}
pub use Rattle.prune.specs.Lemmas.Values.{or_value-dominated, xor_value-bound, xor_value-member}
pub use Rattle.prune.specs.Points.{xor_points, or_points, is_or_point}
pub use Rattle.prune.specs.SearchSteps.{first_refused}
pub use Rattle.std.proofs.Common.{◌≡◌, ℕ, List, ◌+◌, ◌<◌, ◌≤◌, Bool, true, false, cond, ⊎_elim, [], ◌∷◌, refl, sym, ap, ◌∙◌, subst, arith, le_antisymm}
pub use Rattle.std.proofs.Common.{nat_cmp, rules, length, map, None, ap₂, Ordering, Less, Equal, Greater, Some, ◌++◌, append_assoc, Global, zero, suc, Option}
pub use Rattle.std.proofs.Common.{is_none, drop, get_or, take, le_refl, ◌⊎◌, inl, inr, IfSome, eqb, Result, Ok, Err, ◌≢◌, unwrap_or, bytes_eq, not, ◌-◌}
pub use Rattle.std.proofs.Math.Seq.{take-append_seam, drop-append_seam}
pub use Rattle.std.proofs.lemmas.Bool.{cases_Bool, both_ways, false_from_ne_true, cond-true, cond-false, eq-eqb, ne_eqb, eqb-true, eqb-false, not_from_true}
pub use Rattle.std.proofs.lemmas.Bool.Decides.{Decides-eqb}
pub use Rattle.std.proofs.lemmas.Cmp.{tied_itself, nat_list_cmp_total, nat_cmp_total, on_total, then_total, nat_list_eq_equiv}
pub use Rattle.std.proofs.lemmas.Fn.{always_returns_same}
pub use Rattle.std.proofs.lemmas.Grind.{common_steps}
pub use Rattle.std.proofs.lemmas.Iterator.{items_from_drains}
pub use Rattle.std.proofs.lemmas.Iterator.Consumers.{YieldsList-from_first}
pub use Rattle.std.proofs.lemmas.List.{length-append, length-map, map-append, map_push, append-nil, nil_from_length, drop-map, drop_more, drop_all, map-id}
pub use Rattle.std.proofs.lemmas.List.{take_all, take_more, ext_get_or, get_or-map, length-take, drop-drop, drop-take, length-take-le, take-append-le}
pub use Rattle.std.proofs.lemmas.List.{drop-append-le, length-drop, length_push}
pub use Rattle.std.proofs.lemmas.List.Elements.{All-contains, All-weaker, All-head, All-tail, All-map, All-filter, Contains-append_right, filter-append}
pub use Rattle.std.proofs.lemmas.List.Elements.{All-from_recursion, All-nil, All-cons, recursion_from_All}
pub use Rattle.std.proofs.lemmas.List.FromFn.{length-map-range_with_len, length-range_with_len, get_or-range_with_len}
pub use Rattle.std.proofs.lemmas.List.Quantifiers.{position-Some}
pub use Rattle.std.proofs.lemmas.List.Sorted.{IsPermutation-remove, Contains-permutation, length_permutation, IsPermutation-map, All-permutation}
pub use Rattle.std.proofs.lemmas.List.Sorted.{IsPermutation-sym, sum_by-IsPermutation, ranks_by}
pub use Rattle.std.proofs.lemmas.List.Sums.{sum_by-cons, prefix_len-le-length}
pub use Rattle.std.proofs.lemmas.Map.Keys.{IsDistinct-IsPermutation}
pub use Rattle.std.proofs.lemmas.Map.Made.{AllPairs-from_IsDistinct, IsDistinct-from_AllPairs}
pub use Rattle.std.proofs.lemmas.Map.Text.{is_eq-slice_cmp}
pub use Rattle.std.proofs.lemmas.Option.{MatchOption-at_some, MatchOption-at_none, none-some, same_Some, slice_get_within, slice_get-get_or}
pub use Rattle.std.proofs.lemmas.Option.{get_or_from_slice_get}
pub use Rattle.std.proofs.lemmas.Result.{IfOk-weaker}
pub use Rattle.std.proofs.lemmas.Simd.{map-map}
pub use Rattle.std.specs.Cmp.{IsTotalOrder}
pub use Rattle.std.specs.Cmp.Lexicographic.{slice_cmp, bytes_decides}
pub use Rattle.std.specs.FinMap.{slice_cmp-IsAntisymmetric, nat_cmp-IsAntisymmetric}
pub use Rattle.std.specs.Io.KnownBytes.{Consumes}
pub use Rattle.std.specs.Iterator.Adapters.{enumerate_count, enumerate_source}
pub use Rattle.std.specs.List.{count_by, filter, slice_get, range_with_len, AllByRecursion, prefix_len, find, slice_range}
pub use Rattle.std.specs.List.Sorted.{IsSortedBy}
pub use Rattle.std.specs.Map.{lookup}
pub use Rattle.std.specs.Option.{option_eq, option_or}
pub use Rattle.std.specs.Ordering.{is_eq, ordering_then, is_lt, ordering_reverse, match_ordering}
pub use Rattle.std.specs.Prelude.{All, Contains, sum_by, remove, Vec, IsPermutation, ◌↔◌, IfOk, IfErr, OnErr, MatchOption, IsErrAnd, AllPairs, OnOk}
pub use Rattle.std.specs.Vec.Iter.{into_iter_items}
pub use Rattle.valuation.specs.Auctions.{IsAtom, PlainAuction, auction_from, xor_atoms_of, IsAuction, atom_of, is_dummy, or_atoms_of}
pub use Rattle.valuation.specs.Bidders.{bidders_of}
pub use Rattle.valuation.specs.Lemmas.Atoms.{length-atoms_of, drop-atoms_of}
pub use Rattle.valuation.specs.Lemmas.AuctionsOfFiles.{count_atoms, IsAuction-auction_from}
pub use Rattle.valuation.specs.Lemmas.Comparing.{bidder_cmp-drop}
pub use Rattle.valuation.specs.Lemmas.Lists.{Contains-cons_cases, AllPairs-head, AllPairs-tail, Contains-map, Contains-unmap, AllPairs-nil, map-filter}
pub use Rattle.valuation.specs.Lemmas.OrValues.{or_value-price}
pub use Rattle.valuation.specs.Lemmas.Orders.{bidder_cmp_total, bidder_cmp_equal, then-decided, then-left, slice_cmp-ended}
pub use Rattle.valuation.specs.Lemmas.Sorting.{sum_by-sort_by, All-sort_by, sort_by-same, sorted_is_sort_by, ordered-sort_by, ordered_from_counts, IsOrdered}
pub use Rattle.valuation.specs.Orders.{bidder_cmp, atom_cmp}
pub use Rattle.valuation.specs.SearchLimits.{plain_options}
pub use Rattle.valuation.specs.Sorting.{count_of, sort_by}
pub use Rattle.valuation.specs.Tables.{or_table, xor_table, is_nonzero}
pub use Rattle.valuation.specs.Values.{atoms_of, or_value, xor_value}
pub use Rattle.valuation.specs.Views.{plain_auction}
pub use Rattle.valuation.specs.declared.atom.Atom.{Atom}
pub use Rattle.valuation.specs.declared.search.kind.SearchKind.{SearchKind}
pub use Rattle.valuation.specs.declared.search.options.SearchOptions.{SearchOptions}
