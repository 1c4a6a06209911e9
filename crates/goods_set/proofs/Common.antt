-- The names from outside `proofs` that the proofs cite, passed on from one place. A definition that a proof unfolds comes from its own file. Declares nothing.
pub use Rattle.goods_set.specs.Bundles.{has_good, with_good, AreAbove, IsRising, without, good_from, IsBundle}
pub use Rattle.goods_set.specs.Lemmas.AllBundles.{all_bundles_are, all_bundles_has, all_bundles_rise}
pub use Rattle.goods_set.specs.Lemmas.GoodByGood.{with_good-take, below_at}
pub use Rattle.goods_set.specs.Lemmas.Laws.{inside_antisymm_law, inside_ordered_law}
pub use Rattle.goods_set.specs.Lemmas.LowestBits.{without_lowest}
pub use Rattle.goods_set.specs.Lemmas.Members.{same_from_has, has_head, has_cases, has_above, has_not_head, AreAbove-from_has, inside_refl, inside_trans}
pub use Rattle.goods_set.specs.Lemmas.Members.{IsBundle-without}
pub use Rattle.goods_set.specs.Lemmas.Orders.{nat_cmp-lt, nat_cmp-refl, bundle_cmp_total, bundle_cmp_equal}
pub use Rattle.goods_set.specs.Lemmas.Sizes.{has-with_good, IsRising-with_good, good_from-Some, good_from_next, good_from_none, inside_not_larger}
pub use Rattle.goods_set.specs.Lemmas.Sizes.{IsBundle-with_good, with_good_there}
pub use Rattle.goods_set.specs.Lemmas.SortKeys.{sort_key_less, order_by_key, sort_key_of-short, sort_key_of-long}
pub use Rattle.goods_set.specs.Lemmas.Words.{word_goods_bundle, word_goods_has, word_goods_parts, word_goods_same, word_bit_at, word_goods_lacks}
pub use Rattle.goods_set.specs.Lemmas.Words.{word_goods_rise, words_without, word_goods_past, words_apart, words_sharing, words_inside, words_outside}
pub use Rattle.goods_set.specs.Words.{word_bit, word_goods, word_cap}
pub use Rattle.std.proofs.Common.{rules, ◌≡◌, ℕ, ◌*◌, ◌/◌, ◌%◌, ◌^◌, min, ◌<◌, ◌≤◌, ◌≢◌, true, false, not, eqb, ltb, ◌⊎◌, inl, inr, ⊎_elim, List, [], length}
pub use Rattle.std.proofs.Common.{take, get_or, set, replicate, refl, sym, ap, ◌∙◌, subst, arith, w64, shl_exact, get_or-set_same, ◌+◌, ◌-◌, ◌∷◌, Less, Equal}
pub use Rattle.std.proofs.Common.{Greater, nat_cmp, zero, suc, map, ap₂, Bool, cond, ◌++◌, append_assoc, drop, MatchResult, Bor, Option, lit<}
pub use Rattle.std.proofs.lemmas.Bool.{both_ways, cases_eq, cases_Bool, eq-eqb, ne_eqb, eqb-true, ltb-true, ltb-false, false_from_ne_true, or_left, or_right}
pub use Rattle.std.proofs.lemmas.Bool.{or_cases, cases_lt, cases_order, eqb-false, or_parts, or_from, lt-ltb, le-ltb, le-leb, lt-leb}
pub use Rattle.std.proofs.lemmas.Bool.Decides.{Decides-eqb}
pub use Rattle.std.proofs.lemmas.Cmp.{nat_list_cmp_total, tied_itself}
pub use Rattle.std.proofs.lemmas.Fn.{filter_same}
pub use Rattle.std.proofs.lemmas.Grind.{common_steps, get_or_default_zero}
pub use Rattle.std.proofs.lemmas.List.{get_or_past, get_or-map, length-map, append-nil, length-set, length-append, length-drop, get_or-drop}
pub use Rattle.std.proofs.lemmas.List.{get_or_append_left, get_or-append_right, drop_all, take_all, get_or-take, length-take}
pub use Rattle.std.proofs.lemmas.List.FromFn.{length-range_with_len, get_or-map-range_with_len}
pub use Rattle.std.proofs.lemmas.List.Sorted.{searched, IsPartitionPoint-from_clause}
pub use Rattle.std.proofs.lemmas.List.Sums.{length-filter}
pub use Rattle.std.proofs.lemmas.Nat.{le_or_l, le_or_r, and_mask, and_le_l, xor_lt}
pub use Rattle.std.proofs.lemmas.Nat.Bits.{bit_at-lt, bit_at-zero, shr_and_one, and_pow, bit_at_set_same, bit_at_set_other, bit_at_xor, bit_at-trailing_zeros}
pub use Rattle.std.proofs.lemmas.Nat.Bits.{bit_at_and, bit_at_mask_inside, bit_at_mask_below, ones_shl, same_from_bits_below}
pub use Rattle.std.proofs.lemmas.Option.{slice_get-get_or, slice_get_past, unwrap_or-slice_get}
pub use Rattle.std.proofs.lemmas.Simd.{get_or-replicate, length-replicate, length-chunk, get_or-chunk, length-zip2, get_or-zip2, get_or-put_chunk_below}
pub use Rattle.std.proofs.lemmas.Simd.{get_or-put_chunk_at, get_or-put_chunk_above, mask_l-lt, bit_mask_l, ones-mask_l, length-put_chunk}
pub use Rattle.std.proofs.lemmas.Slice.Eq.{slice_eq-Decides}
pub use Rattle.std.specs.Cmp.Lexicographic.{slice_cmp}
pub use Rattle.std.specs.Int.{bit_at, trailing_zeros, bit_not}
pub use Rattle.std.specs.Int.Bits.{or_zero_l}
pub use Rattle.std.specs.Int.RustNames.{bit_and, bit_or, bit_xor, count_ones}
pub use Rattle.std.specs.List.{filter, range_with_len, insert, slice_get}
pub use Rattle.std.specs.List.Sorted.{IsBinarySearchResult, IsPartitionPoint, IsPartitionedBy}
pub use Rattle.std.specs.Option.{option_copied, unwrap_or}
pub use Rattle.std.specs.Ordering.{ordering_then, ordering_reverse}
pub use Rattle.std.specs.Prelude.{Result, Ok, Err, Some, None, OnOk, OnErr}
pub use Rattle.std.specs.Simd.Lanes.{zip2, chunk, fold_l, put_chunk, mask_l}
pub use Rattle.std.specs.Slice.{IsItemAt}
