-- The names from outside `proofs` that the proofs cite, passed on from one place. A definition that a proof unfolds comes from its own file. Declares nothing.
pub use Rattle.bid_file.specs.Files.{PlainBid, PlainFile, IsPlainFile, IsBid, goods_of, IsDummyBelow, dummy_good}
pub use Rattle.bid_file.specs.Views.{seen_bid}
pub use Rattle.bid_file.specs.declared.bid.BidFile.{BidFile}
pub use Rattle.bid_file.specs.declared.limits.TheConstants.{MAX_BIDS, MAX_GOODS, MAX_DUMMY, MAX_PRICE}
pub use Rattle.cats_text.specs.FaultPlaces.{PlainPlace, place_behind, words_place, lines_place, first_place, fault_of}
pub use Rattle.cats_text.specs.Faults.{has_bid_line, complete_fault, first_fault, fault_at, header_value, word_fault, when, has_end, is_end, header_word}
pub use Rattle.cats_text.specs.Faults.{is_line_due, end_fault, words_fault, line_fault, lines_fault, is_final, keep_final, up_to_final, Bounds, bounds_of}
pub use Rattle.cats_text.specs.Faults.{number_word, price_word, bid_end, header_end, good_word, bid_word, is_text_kind, IsOfText}
pub use Rattle.cats_text.specs.Fed.{Fed, fed_fault}
pub use Rattle.cats_text.specs.FileLines.{bid_of, put_slot, filled, before_end, real_goods, dummy_in, slots_of, file_of_lines, spelled_file, rising_of}
pub use Rattle.cats_text.specs.Grammar.{Spells, line_number, SpellsBid, AreDistinct, SpellsNumber, significant_words, SpellsPrice}
pub use Rattle.cats_text.specs.Internal.Kept.{is_some_bid, slot_at, arrived, AreWithin, IsPadded, arrivals_to}
pub use Rattle.cats_text.specs.Keeps.{whole, number_alone, with_goods}
pub use Rattle.cats_text.specs.Internal.LeadingToken.{IsLeadingToken, IsNumberSoFar, IsPlain, IsLetter, IsKept, ends_word}
pub use Rattle.cats_text.specs.Internal.Machine.{summary, word_from, word_with, decimal_with, keyword_text, place_value_of}
pub use Rattle.cats_text.specs.Internal.Marks.{IsMarked, IsListed}
pub use Rattle.cats_text.specs.Internal.Parsing.{Reading, word_read, line_read, is_due, number_read, price_read, price_parts, with_price, good_or_end_read}
pub use Rattle.cats_text.specs.Internal.Parsing.{good_read, dummy_read, end_read, keyword_read, header_number_read, with_bid, drafted, bid_closed, start}
pub use Rattle.cats_text.specs.Internal.Parsing.{is_same_keyword, read_at, line_at}
pub use Rattle.cats_text.specs.Internal.Places.{Judged, judged_at, judged_then, words_judged, line_judged, IsFirstWord, IsFirstLine, without_return, seen}
pub use Rattle.cats_text.specs.Internal.Progress.{Progress, Gives, Stops, progress}
pub use Rattle.cats_text.specs.Internal.Reading.{PartsAnswer, PartsAs, Unpacks, HasTaken, IsReading, SpellsParts, placed_fault}
pub use Rattle.cats_text.specs.Internal.Returns.{settled, waits, carried, settle, return_byte}
pub use Rattle.cats_text.specs.Internal.Scanning.{State, state, first_state, Scan, scan, Scans, MeetsBidLine, end_of, ArePartsOf, Finishes, IsInBidLine}
pub use Rattle.cats_text.specs.Internal.Scanning.{HasBids, and_then, with_reading, blank_step_at, words_step_at, missing_step, line_step, byte_step, end_step}
pub use Rattle.cats_text.specs.Internal.Scanning.{blank_step, words_step, next_line, line_behind, letter_mode, is_before_word, IsGoodDue, ScansTo, IsInLine}
pub use Rattle.cats_text.specs.Internal.Scanning.{IsScanned}
pub use Rattle.cats_text.specs.Layout.{bid_text, bids_text, price_text, tabbed, header_text, layout, headers_text, without_zeros, six_digits, places_text}
pub use Rattle.cats_text.specs.Layout.{with_place, digit_at, behind_point}
pub use Rattle.cats_text.specs.Lines.{Word, Line, RawLine, raw_lines, with_byte, line_words, is_significant, is_blank, lines_with, words_with, with_letter}
pub use Rattle.cats_text.specs.Lines.{begins_word, numbered, blank_returns, significant_lines, line_byte, line_count, line_ends}
pub use Rattle.cats_text.specs.Numbers.{number_of, is_too_large, is_too_fine, price_of, whole_part, places, has_place_from, six_places, digits_alone}
pub use Rattle.cats_text.specs.Numbers.{GREATEST_PRICE, is_number, is_digit, is_price, has_point}
pub use Rattle.cats_text.specs.Reading.{PackedAnswer, PackedAs, CheckAnswer, CheckedAs, FinishAnswer, FinishesAs, WantsMemory, FeedsAs}
pub use Rattle.cats_text.specs.Streams.{has_failed, IsWhole, IsTextFault, FaultsAt, ReadsAs, ReadsPlainAs, ChecksAs, inner_of, Sends, SendsPart, has_ended}
pub use Rattle.cats_text.specs.Streams.{failed_to_write, moved_nothing}
pub use Rattle.cats_text.specs.Views.{plain_place}
pub use Rattle.cats_text.specs.declared.fault_place.FaultPlace.{FaultPlace}
pub use Rattle.cats_text.specs.declared.history.History.{History}
pub use Rattle.cats_text.specs.declared.layout.TheConstants.{LONGEST_LINE, GOOD}
pub use Rattle.cats_text.specs.declared.limits.TheConstants.{MAX_STREAM}
pub use Rattle.cats_text.specs.declared.parser.Column.{Column}
pub use Rattle.cats_text.specs.declared.parser.Column.TheVariants.{First, Second, Later, Ended}
pub use Rattle.cats_text.specs.declared.parser.Draft.{Draft}
pub use Rattle.cats_text.specs.declared.parser.Header.{Header}
pub use Rattle.cats_text.specs.declared.parser.Stage.{Stage}
pub use Rattle.cats_text.specs.declared.parser.Stage.TheVariants.{Bid, Goods, Bids, Dummy}
pub use Rattle.cats_text.specs.declared.price.Decimal.{Decimal}
pub use Rattle.cats_text.specs.declared.read_fault.Kind.{Kind}
pub use Rattle.cats_text.specs.declared.read_fault.Kind.TheVariants.{TooLong, Memory, Device, Missing, EmptyBundle, NotANumber, GoodRange, RepeatedGood}
pub use Rattle.cats_text.specs.declared.read_fault.Kind.TheVariants.{TwoDummies}
pub use Rattle.cats_text.specs.declared.read_fault.ReadFault.{ReadFault}
pub use Rattle.cats_text.specs.declared.read_fault.SendFault.{SendFault}
pub use Rattle.cats_text.specs.declared.scanner.Mode.{Mode}
pub use Rattle.cats_text.specs.declared.scanner.Mode.TheVariants.{Between, Inside, Start, Blank, Comment}
pub use Rattle.cats_text.specs.declared.scanner.Scanner.{Scanner}
pub use Rattle.cats_text.specs.declared.sending.TheConstants.{PAGE}
pub use Rattle.cats_text.specs.declared.stream.Watched.{Watched}
pub use Rattle.cats_text.specs.declared.word.TheConstants.{HELD}
pub use Rattle.cats_text.specs.declared.word.Word.TheVariants.{Keyword, Number, End, Other}
pub use Rattle.core.proofs.dec2flt.DigitsLemmas.{digits_len_short}
pub use Rattle.core.proofs.dec2flt.Eight.{lanes_are, first_other, shifted_is, eight_at, word_at, bytes_up, eight_is}
pub use Rattle.core.proofs.slice.Flagged.{flags_from_ten}
pub use Rattle.goods_set.specs.Bundles.{has_good, AreAbove, IsRising, AreBelow}
pub use Rattle.goods_set.specs.Lemmas.Members.{has_head, has_tail, has_cases, has_above, same_from_has, has_below, has-filter, AreBelow-from_has}
pub use Rattle.goods_set.specs.Lemmas.Sizes.{has-with_good, IsRising-with_good}
pub use Rattle.std.proofs.Common.{◌≡◌, ◌<◌, ℕ, true, List, length, Option, Some, None, Result, Ok, Err, MatchOption, refl, sym, subst, inr, arith, rules, suc}
pub use Rattle.std.proofs.Common.{zero, ◌+◌, ◌-◌, ◌≤◌, min, Bool, false, [], ◌∷◌, ◌++◌, take, ap, ◌∙◌, inl, ◌⊎◌, length-append, ◌^◌, IfSome, if◌then◌else◌}
pub use Rattle.std.proofs.Common.{not, ◌&&◌, ◌||◌, cond, eqb, ltb, leb, replicate, set, get_or, add-one, map, append-nil, ap₂, append_assoc, ◌≢◌}
pub use Rattle.std.proofs.Common.{⊎_elim, fold, drop, IfOk, IsOkAnd, filter, ◌*◌, ◌%◌, slice_range, lt_of_lt_of_le, zero-add, drop-cons, get_or-set_same}
pub use Rattle.std.proofs.Common.{get_or-set_other, nat_le, option_map, add-zero, codes, decimal, take-take, ◌/◌, vec_len, MutBor, vec_capacity}
pub use Rattle.std.proofs.KnownBytes.{Appends-trans, Appends-nil, Consumes-trans, Consumes-kept}
pub use Rattle.std.proofs.Math.ListN.{drop_of_length-le}
pub use Rattle.std.proofs.Math.Nat.{pow-suc, pow-le-pow_right, mod-eq_of_lt, mul-le-mul_left, pow-succ', mul-le-mul_right}
pub use Rattle.std.proofs.Math.Seq.{take-suc, take-length, take-add}
pub use Rattle.std.proofs.lemmas.Bool.{lt-ltb, le-leb, lt-leb, ltb-false, leb-true, leb-false, eq-eqb, ne_eqb, both_ways, or_left, and_parts, le-ltb, ltb-true}
pub use Rattle.std.proofs.lemmas.Bool.{eqb-true, eqb-false, false_from_ne_true, or_cases, or_right, and_from, cases_eq, not-false, not_from_true, or_from}
pub use Rattle.std.proofs.lemmas.Bool.{cases_Bool, cases_lt, or_parts, not-true, false≢true, not_from_false, cond-false, cond_both, cond-true, and_left}
pub use Rattle.std.proofs.lemmas.Bool.Decides.{leb_tells}
pub use Rattle.std.proofs.lemmas.Fmt.{digits_decimal, digits_value-decimal, decimal_nonempty, length-decimal-le, decimal-digits_value, decimal_digit}
pub use Rattle.std.proofs.lemmas.Fmt.{decimal_step}
pub use Rattle.std.proofs.lemmas.Grind.{common_steps, flat_map-append, replicate_next}
pub use Rattle.std.proofs.lemmas.List.{length-map, take_all, length-replicate, replicate-append-replicate, map-set, map-append, take_more, length-take}
pub use Rattle.std.proofs.lemmas.List.{length-drop, take-append-drop, drop-drop, length-set, drop_all, drop-append-le, drop-set, get_or-take, length-take-le}
pub use Rattle.std.proofs.lemmas.List.{take-append-le, take_rest}
pub use Rattle.std.proofs.lemmas.List.Elements.{filter_map-append, filter-append}
pub use Rattle.std.proofs.lemmas.List.Folds.{find-append, list_any-append, length-prefix_len, list_all-append}
pub use Rattle.std.proofs.lemmas.List.Quantifiers.{position-Some}
pub use Rattle.std.proofs.lemmas.List.Sorted.{sum_by-IsPermutation, list_any-IsPermutation, IsNonDecreasingBy-from_sort}
pub use Rattle.std.proofs.lemmas.List.Sums.{fold_push, fold-append, take_while-cons, sum_by-cons, fails_before_first, passes_at_first}
pub use Rattle.std.proofs.lemmas.Option.{slice_get-get_or, slice_get_within}
pub use Rattle.std.proofs.lemmas.Result.{err_from_is_err_and}
pub use Rattle.std.proofs.lemmas.Slice.Eq.{bytes_eq-Decides}
pub use Rattle.std.proofs.lemmas.Str.Parse.{IsNumeralModel, numerals_by_fold}
pub use Rattle.std.specs.Bool.{then_some}
pub use Rattle.std.specs.Char.{digit_value}
pub use Rattle.std.specs.Float.Numeral.{digits_len}
pub use Rattle.std.specs.Io.KnownBytes.{Appends, Consumes}
pub use Rattle.std.specs.List.{list_any, slice_get, find, AllByRecursion, prefix_len, position_or_len, position, sum_by, list_all}
pub use Rattle.std.specs.List.Sorted.{IsPermutation, IsNonDecreasing}
pub use Rattle.std.specs.Option.{option_or, option_to_list, is_some, unwrap_or}
pub use Rattle.std.specs.Prelude.{IsErrAnd}
pub use Rattle.std.specs.Result.{result_err}
pub use Rattle.std.specs.Str.{bytes_eq}
pub use Rattle.std.specs.Str.Parse.{digits_value, digits_value_after}
pub use base.Fml.{GName, Lft, Share, ftrue, flft, fobs, fbor}
pub use base.Logic.{SProp, ent, sep, emp, via, fst∗, id⊢}
pub use contract.Monad.{Fun}
pub use contract.Running.{tables}
pub use denote.Builtin.{u8}
pub use denote.Exit.{yes}
pub use denote.Memory.{mem}
pub use denote.RattleType.{owns}
pub use denote.Ref.{MutRef, mut_vals, Bor}
pub use denote.Shadow.{pure_i}
pub use denote.Signature.{plain}
pub use denote.Slice.{ShrSlice, slice_val, shr_slice_vals}
pub use denote.Steps.{nothing, opens, closes}
pub use denote.Triple.Entry.{on_entry}
pub use denote.Triple.Spec.{Meets, triple_of}
pub use denote.Triple.Table.{entered}
pub use denote.Triple.Walked.{says, ends_at, walked, walk_Meets, Stays, stay_ref, walk_of, AllGo, Goes-ref, Walks, stay_none_slice, Goes-none_slice}
pub use mir.Syntax.{named}
pub use mir.Val.{Val, vstruct, vcons, vnil, vunit, vptr}
pub use prog.Routine.{Routine}
pub use prog.Wp.{WpFn, Tables, Calls, Loops}
pub use seplogic.Ra.Ura.{Ura}
pub use sound.WpLaws.{WpFn-mono}
pub use types.ByLocal.{alloc_all, pass_all, free_all, look_at, get, sets}
pub use types.Kit.{raw, ◌$◌, ◌∵◌, !, qed, keep, join, suffices, done, ‵, ◌⊛◌, by, move, use1, split, fsplit, fsplit3, fjoin, fjoin3, feq_i, frame}
pub use types.Logic.{Logic}
pub use types.Part.{agg}
pub use types.Run.{no_more, returns, enter, unit_lit, of_opd}
pub use types.SemTy.{Body}
