-- The names from outside `proofs` that the proofs cite, passed on from one place. A definition that a proof unfolds comes from its own file. Declares nothing.
pub use Rattle.analysis.proofs.Comparing.BeginAuctions.{begins_with_first, none_exactly_for_same}
pub use Rattle.analysis.proofs.Comparing.Indices.{canonical_from_file}
pub use Rattle.analysis.proofs.Comparing.LawsLists.{Contains-filter_map, there_is_counted}
pub use Rattle.analysis.proofs.Explaining.BestBids.{alike_from, one_key}
pub use Rattle.analysis.proofs.Explaining.KeptBidsBest.{best-once, one_key_sym, none_is, some_is}
pub use Rattle.analysis.proofs.Explaining.TrueReasons.{reasons_explain}
pub use Rattle.analysis.specs.BidOrders.{AreInOrder}
pub use Rattle.analysis.specs.BidderChanges.{PlainBidderChange, AreBidderChanges, bidder_at, bids_at, excess_bidders, is_excess, rights_of}
pub use Rattle.analysis.specs.Bids.{bid_at, are_alike, is_best, numbers_of, best_number, IsBestFor}
pub use Rattle.analysis.specs.Differences.{AreAllDifferences, PlainDifferences, is_none_at_all}
pub use Rattle.analysis.specs.Reasons.{Zero, plain_reason, reason_at, reasons_of}
pub use Rattle.analysis.specs.Views.{plain_bidder_change}
pub use Rattle.analysis.specs.declared.reasons.best.NumberedBid.{NumberedBid}
pub use Rattle.analysis.specs.declared.reasons.reason.Reason.{Reason}
pub use Rattle.bid_file.specs.Files.{PlainBid, PlainFile, IsDummyBelow, IsPlainFile}
pub use Rattle.bid_file.specs.Views.{seen_bid}
pub use Rattle.bid_file.specs.declared.limits.TheConstants.{MAX_GOODS}
pub use Rattle.canon.proofs.CanonicalAuctions.Atoms.{HasAtoms}
pub use Rattle.canon.proofs.CanonicalAuctions.Sames.{same_sym, same_trans}
pub use Rattle.canon.proofs.CanonicalFiles.Files.{auction_from-file_from}
pub use Rattle.canon.proofs.CanonicalFiles.Texts.{HasAtoms-file, canonical_file_is_fixed, IsPlainFile-canonical, canonical_file_is_same}
pub use Rattle.canon.proofs.TwoFiles.Differences.{no_difference_same}
pub use Rattle.canon.proofs.TwoFiles.SameDifferences.{difference_of_same_files}
pub use Rattle.canon.specs.Canonical.{canonical_auction, canonical_file, canonical_text, IsCanonicalFile}
pub use Rattle.canon.specs.Difference.{Difference, NoDifference}
pub use Rattle.canon.specs.Lemmas.Finding.{counted_is_there}
pub use Rattle.canon.specs.Lemmas.FirstChanges.{bid_of_price}
pub use Rattle.canon.specs.Lemmas.Renaming.{kept_dummies-below, points_of_kept_dummies, filter-map}
pub use Rattle.canon.specs.PriceChanges.{PlainChange, IsPriceChange, ArePriceChanges, price_on, plain_change}
pub use Rattle.canon.specs.Refusals.{refusal_of, refusal_by_kind}
pub use Rattle.canon.specs.Renaming.{kept_dummies, named_dummy, points_of_dummy}
pub use Rattle.canon.specs.Sameness.{AreSameFiles}
pub use Rattle.canon.specs.Verdicts.{printed_atoms}
pub use Rattle.canon.specs.declared.canon_fault.CanonFault.{CanonFault}
pub use Rattle.canon.specs.declared.canon_fault.CanonFault.TheVariants.{StepLimit, Memory}
pub use Rattle.canon.specs.declared.which.Which.{Which}
pub use Rattle.canon.specs.declared.which.Which.TheVariants.{Only, First, Second, Both}
pub use Rattle.cats_text.specs.Faults.{fault_at}
pub use Rattle.cats_text.specs.Layout.{price_text}
pub use Rattle.cats_text.specs.declared.read_fault.Kind.{Kind}
pub use Rattle.cats_text.specs.declared.read_fault.Kind.TheVariants.{TooLong, Device}
pub use Rattle.cats_text.specs.declared.read_fault.ReadFault.{ReadFault}
pub use Rattle.commands.specs.Commands.{text_of, GivesWithin, ReadsCanonical}
pub use Rattle.commands.specs.Compare.{bidder_text}
pub use Rattle.commands.specs.Diff.{bid_number, bidder_rows, change_row}
pub use Rattle.commands.specs.Explain.{explanation_row, explanation_header}
pub use Rattle.commands.specs.FaultLines.{rest_text, text_of_heavy_bid, text_of_limit, text_of_kind}
pub use Rattle.commands.specs.Internal.ComparedFiles.{IsComparedFile, PrintsDifferences}
pub use Rattle.commands.specs.Internal.Pairs.{of_file}
pub use Rattle.commands.specs.Internal.Sides.{IsBidOf, IsOfBidders, IsOfBids, file_of}
pub use Rattle.commands.specs.KindNames.{name_of_kind}
pub use Rattle.commands.specs.Normalise.{limit_met, with_bid}
pub use Rattle.commands.specs.Value.{missing_good}
pub use Rattle.commands.specs.Outcomes.{Outcome, Prints}
pub use Rattle.commands.specs.Normalise.{naming_outcome, normalise_outcome, exceeds_at, text_unless_refused, first_bid_on, is_on}
pub use Rattle.commands.specs.Compare.{compare_outcome}
pub use Rattle.commands.specs.Diff.{diff_outcome}
pub use Rattle.commands.specs.Compare.{outcome_of_difference}
pub use Rattle.commands.specs.Outputs.{bundle_text}
pub use Rattle.commands.specs.Pairs.{CommandsBoth, Compares, Diffs, GivesBoth, MakesOfBoth, outcome_of_both}
pub use Rattle.commands.specs.Pieces.{text_of_piece, text_of_pieces}
pub use Rattle.commands.specs.Judgements.{Judgement, IsJudged, IsHeavy, IsUnjudged, JudgesInput}
pub use Rattle.commands.specs.Sizes.{PutsNumbers}
pub use Rattle.commands.specs.Sizes.{counts_of, has_dummy, sizes_of, with_tabs}
pub use Rattle.commands.specs.Value.{best_place, numbers_from, or_numbers, xor_numbers, lists_of, dummy_line, numbers_text, option_places, xor_line}
pub use Rattle.commands.specs.Value.{bundle_from}
pub use Rattle.commands.specs.declared.answer.Answer.{Answer}
pub use Rattle.commands.specs.declared.faults.HeavyBid.{HeavyBid}
pub use Rattle.commands.specs.declared.faults.RunFault.{RunFault}
pub use Rattle.commands.specs.declared.faults.RunFault.TheVariants.{Refused}
pub use Rattle.commands.specs.declared.printed.pieces.Piece.{Piece}
pub use Rattle.commands.specs.declared.diff.sides.ComparedFile.{ComparedFile}
pub use Rattle.goods_set.specs.Bundles.{is_inside, with_good}
pub use Rattle.goods_set.specs.Lemmas.Members.{AreBelow-higher}
pub use Rattle.prune.specs.Lemmas.KeptBids.{just_bundles, on_bundles, or_points_are_atoms, xor_points_are_atoms}
pub use Rattle.prune.specs.Lemmas.Lists.{Contains-filter_parts, All-from_Contains, Contains-head, Contains-tail}
pub use Rattle.prune.specs.Lemmas.Ranges.{in_range, range_contains}
pub use Rattle.prune.specs.Lemmas.SearchSteps.{greatest_price-reached}
pub use Rattle.prune.specs.Points.{or_points}
pub use Rattle.prune.specs.SearchSteps.{first_refused, greatest_price, search_steps_by, searched_bundles}
pub use Rattle.std.proofs.Common.{◌≡◌, ◌≢◌, ℕ, ◌<◌, Bool, true, false, ◌&&◌, ◌==◌, List, [], length, get_or, Option, Some, None, refl, arith, sym, ap, ◌∙◌}
pub use Rattle.std.proofs.Common.{subst, map, ⊎_elim, set, replicate, zero-add, ◌+◌, ◌++◌, rules, inl, inr, Result, Ok, Err, suc, ◌∷◌, ap₂}
pub use Rattle.std.proofs.Common.{take, append-nil, append_assoc, ltb, cond, Global, IfOk, IfErr, ◌≤◌, nat_le}
pub use Rattle.std.proofs.Common.{IfSome, codes, decimal, min, filter}
pub use Rattle.std.proofs.lemmas.Bool.{eqb-true, and_from, and_left, eq-eqb, lt-ltb, le-ltb, and_parts, cases_eq, ltb-true, ne_eqb}
pub use Rattle.std.proofs.lemmas.Cmp.{nat_cmp_total, nat_list_eq_equiv}
pub use Rattle.std.proofs.lemmas.List.{get_or_default, get_or-map, length-map, length-replicate, length-set, get_or-replicate, get_or-set_same}
pub use Rattle.std.proofs.lemmas.List.{get_or-set_other, flat_map_more, map-id, take_more, length-take-le, map-set}
pub use Rattle.std.proofs.lemmas.List.{take_min}
pub use Rattle.std.proofs.lemmas.List.Elements.{Contains-get_or, All-contains, All-get_or, All-weaker}
pub use Rattle.std.proofs.lemmas.List.Filters.{length-filter_more}
pub use Rattle.std.proofs.lemmas.List.Folds.{find_at, list_any_more}
pub use Rattle.std.proofs.lemmas.List.FromFn.{get_or-map-range_with_len, length-map-range_with_len, fill_by_all, get_or-range_with_len, length-range_with_len}
pub use Rattle.std.proofs.lemmas.List.FromFn.{map-range_with_len_more}
pub use Rattle.std.proofs.lemmas.List.Sums.{position_or_len_is, fails_before_first, passes_at_first, fold_more}
pub use Rattle.std.proofs.lemmas.Option.{slice_get-get_or, slice_get_within, get_or_from_slice_get}
pub use Rattle.std.proofs.lemmas.Result.{IfOk-weaker, on_ok_weaker}
pub use Rattle.std.specs.Cmp.Lexicographic.{pointwise}
pub use Rattle.std.specs.FinMap.{nat_cmp-IsAntisymmetric}
pub use Rattle.std.specs.List.{position_or_len, find, range_with_len, filter_map, flat_map, slice_get}
pub use Rattle.std.specs.Ordering.{nat_cmp}
pub use Rattle.std.specs.Prelude.{All, IsNone, Contains, is_none, nat_eq, Vec, OnOk, is_ok, if◌then◌else◌, ◌||◌, ◌↔◌}
pub use Rattle.valuation.proofs.Placing.{length-bidders_of}
pub use Rattle.valuation.specs.Auctions.{IsAtom, PlainAuction, atom_of, auction_from, is_dummy, or_atoms_of, xor_atoms_of}
pub use Rattle.valuation.specs.Bidders.{bidders_of}
pub use Rattle.valuation.specs.Lemmas.Atoms.{length-atoms_of}
pub use Rattle.valuation.specs.Lemmas.AuctionsOfFiles.{IsBid-there}
pub use Rattle.valuation.specs.Lemmas.Lists.{Contains-unmap}
pub use Rattle.valuation.specs.Lemmas.Packings.{chosen_indices-packing}
pub use Rattle.valuation.specs.SearchLimits.{options_after}
pub use Rattle.valuation.specs.Values.{xor_value, IsFirstBest, atoms_of, chosen_indices}
pub use Rattle.valuation.specs.declared.atom.Atom.{Atom}
pub use Rattle.valuation.specs.declared.search.options.SearchOptions.{SearchOptions}
pub use borrow.Rule.Slice.PartMut.{same_len_mid}
