-- The dummy goods of the bidders that are in the canonical file. They are put in order by the points of their bidders first, so these
-- points are the bidders of the canonical auction; none is there twice, and each is that of a bidder whose value is not zero.
use Rattle.std.proofs.Common.{◌≡◌, ◌≢◌, ℕ, ◌+◌, ◌<◌, Bool, true, false, List, [], ◌∷◌, length, map, get_or, eqb, refl, sym, subst, arith, Ordering}
use Rattle.std.proofs.Common.{Less, Equal, Greater, rules}
use Rattle.std.specs.Prelude.{AllPairs, Contains}
use Rattle.std.specs.Cmp.{IsTotalOrder}
use Rattle.std.specs.List.{filter, range_with_len}
use Rattle.std.specs.List.Sorted.{IsSortedBy}
use Rattle.std.specs.Ordering.{is_lt, ordering_then}
use Rattle.std.proofs.lemmas.Bool.Decides.{Decides-eqb}
use Rattle.std.proofs.lemmas.Cmp.{nat_cmp_total, on_total, then_total}
use Rattle.std.proofs.lemmas.List.{length-map, get_or-map}
use Rattle.std.proofs.lemmas.List.FromFn.{length-range_with_len, get_or-range_with_len}
use Rattle.std.proofs.lemmas.List.Kept.{AllPairs-filter}
use Rattle.std.proofs.lemmas.List.Sorted.{IsPermutation-map, IsPermutation-sym, Contains-permutation}
use Rattle.std.proofs.lemmas.Map.Keys.{IsDistinct-IsPermutation}
use Rattle.std.proofs.lemmas.Map.Made.{AllPairs-from_IsDistinct, IsDistinct-from_AllPairs}
use Rattle.std.proofs.lemmas.Simd.{map-map}
use Rattle.bid_file.specs.Files.{PlainFile}
use Rattle.valuation.specs.Auctions.{auction_from, xor_atoms_of}
use Rattle.valuation.specs.Lemmas.Orders.{bidder_cmp_total, bidder_cmp_equal}
use Rattle.valuation.specs.Lemmas.Sorting.{permutation-sort_by, sorted-sort_by, sorted_is_sort_by}
use Rattle.valuation.specs.Sorting.{sort_by}
use Rattle.valuation.specs.Tables.{xor_table, is_nonzero}
use Rattle.prune.specs.Lemmas.Lists.{Contains-filter, Contains-filter_parts}
use Rattle.prune.specs.Lemmas.Ranges.{in_range, range_contains}
use Rattle.canon.specs.Canonical.{canonical_auction, points_of_bidders}
use Rattle.canon.specs.Renaming.{points_of_dummy, dummy_cmp, kept_dummies}
use Rattle.canon.specs.Lemmas.OrDifferences.{eqb_swap}
use Rattle.std.proofs.lemmas.Grind.{common_steps}

-- ---- lists that are seen as others

pub filter-map : {X Y : Type 0} (p : Y → Bool) (seen : X → Y) (xs : List X) → filter p (map seen xs) ≡ map seen (filter (λ x. p (seen x)) xs)
filter-map p seen [] = refl
filter-map {X} {Y} p seen (x ∷ xs) = search (rules, (filter-map p seen xs))

-- what is in order by what is seen of each element, is in order once it is seen
pub map-sorted : {X Y : Type 0} (seen : X → Y) (lt : Y → Y → Bool) (xs : List X) → IsSortedBy (λ x y. lt (seen x) (seen y)) xs → IsSortedBy lt (map seen xs)
map-sorted seen lt [] up k d l m = absurd (omega arith)
map-sorted {Y = Y} seen lt (x ∷ xs) up k d l m =
    let long = length-map (x ∷ xs) seen in
    let here : k < length (x ∷ xs) = omega arith in
    let next : k + 1 < length (x ∷ xs) = omega arith in
    subst (λ (a : Y). lt a (get_or (map seen (x ∷ xs)) k d) ≡ false) (sym (get_or-map seen (x ∷ xs) (k + 1) x d next))
    (subst (λ (b : Y). lt (seen (get_or (x ∷ xs) (k + 1) x)) b ≡ false) (sym (get_or-map seen (x ∷ xs) k x d here)) (up k x l next))

-- seen before or after they are put in order, where the first order settles the second
pub sort_by-map : {X Y : Type 0} (cmp : X → X → Ordering) (other : Y → Y → Ordering) (seen : X → Y) → IsTotalOrder cmp → IsTotalOrder other
    → ((a b : Y) → other a b ≡ Equal → a ≡ b) → ((x y : X) → is_lt (cmp x y) ≡ false → is_lt (other (seen x) (seen y)) ≡ false) → (xs : List X)
    → map seen (sort_by cmp xs) ≡ sort_by other (map seen xs)
sort_by-map cmp other seen total also exact weaker xs =
    sorted_is_sort_by other also exact (map seen xs) (map seen (sort_by cmp xs))
    (IsPermutation-map seen xs (sort_by cmp xs) (permutation-sort_by cmp xs))
    (map-sorted seen (λ a b. is_lt (other a b)) (sort_by cmp xs) (λ k d l m. weaker _ _ (sorted-sort_by cmp total xs k d l m)))

-- ---- two orders, the second where the first ties

pub then_not_less : (o p : Ordering) → is_lt (ordering_then o p) ≡ false → is_lt o ≡ false
then_not_less Less p e = absurd (cc)
then_not_less Equal p e = refl
then_not_less Greater p e = refl

pub then_equal : (o p : Ordering) → ordering_then o p ≡ Equal → (o ≡ Equal) × (p ≡ Equal)
then_equal Less p e = absurd (cc)
then_equal Equal p e = (refl, e)
then_equal Greater p e = absurd (cc)

pub dummy_cmp_total : (f : PlainFile) → IsTotalOrder (dummy_cmp f)
dummy_cmp_total f = then_total (on_total (points_of_dummy f) bidder_cmp_total) nat_cmp_total

-- ---- the bidders of the file that are in the canonical one

abbrev pub has_value : PlainFile → ℕ → Bool
has_value f d = is_nonzero (xor_table (xor_atoms_of f.bids d) f.goods)

abbrev pub nonzero_dummies : PlainFile → List ℕ
nonzero_dummies f = filter (has_value f) (range_with_len 0 f.dummy)

pub points_of_nonzero : (f : PlainFile) → points_of_bidders f.goods (auction_from f).xor_bidders ≡ map (points_of_dummy f) (nonzero_dummies f)
points_of_nonzero f = search (rules, filter-map, map-map)

pub points_of_kept_dummies : (f : PlainFile) → map (points_of_dummy f) (kept_dummies f) ≡ (canonical_auction (auction_from f)).xor_bidders
points_of_kept_dummies f = search (rules, sort_by-map, dummy_cmp_total, bidder_cmp_total, bidder_cmp_equal, then_not_less, points_of_nonzero)

-- ---- which they are

pub kept_dummies-below : (f : PlainFile) (d : ℕ) → Contains (kept_dummies f) d → (d < f.dummy) × (has_value f d ≡ true)
kept_dummies-below f d c =
    let there : Contains (nonzero_dummies f) d = search (rules, Contains-permutation, IsPermutation-sym, permutation-sort_by) in
    let parts = Contains-filter_parts (has_value f) (range_with_len 0 f.dummy) d there in
    (in_range f.dummy d parts.0, parts.1)

pub kept_dummies-has : (f : PlainFile) (d : ℕ) → d < f.dummy → has_value f d ≡ true → Contains (kept_dummies f) d
kept_dummies-has f d l e = Contains-permutation (nonzero_dummies f) (kept_dummies f) d (permutation-sort_by (dummy_cmp f) (nonzero_dummies f))
    (search (rules, Contains-filter, range_contains))

-- ---- none is there twice

pub range_differs : (n : ℕ) → AllPairs (λ d e. d ≢ e) (range_with_len 0 n)
range_differs n i j d l m e = grind (arith, common_steps, length-range_with_len, get_or-range_with_len)

pub kept_dummies-differ : (f : PlainFile) → AllPairs (λ d e. d ≢ e) (kept_dummies f)
kept_dummies-differ f =
    AllPairs-from_IsDistinct Decides-eqb (kept_dummies f)
    (IsDistinct-IsPermutation eqb eqb_swap (nonzero_dummies f) (kept_dummies f) (permutation-sort_by (dummy_cmp f) (nonzero_dummies f))
    (IsDistinct-from_AllPairs Decides-eqb (nonzero_dummies f)
    (AllPairs-filter (λ d e. d ≢ e) (has_value f) (range_with_len 0 f.dummy) (range_differs f.dummy))))
