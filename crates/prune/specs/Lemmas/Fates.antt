-- Lemmas on what becomes of best bids: points that are not below a bundle do not matter there.
use Rattle.std.proofs.Common.{rules, ◌≡◌, ℕ, ◌+◌, ◌<◌, ◌≤◌, Bool, true, false, not, leb, List, [], ◌∷◌, ◌++◌, append-nil, length, reverse, refl, sym, ap}
use Rattle.std.proofs.Common.{◌∙◌, subst, arith, Some, None}
use Rattle.std.specs.Prelude.{All, AllPairs, Contains, IfSome, Option}
use Rattle.std.specs.List.{filter, find, range_with_len}
use Rattle.std.proofs.lemmas.Bool.{and_parts, leb-true}
use Rattle.std.proofs.lemmas.List.{get_or_append_left, get_or_push, length_push}
use Rattle.std.proofs.lemmas.List.Elements.{filter-append}
use Rattle.std.proofs.lemmas.List.Kept.{AllPairs-filter}
use Rattle.goods_set.specs.Bundles.{is_inside}
use Rattle.valuation.specs.declared.atom.Atom.{Atom}
use Rattle.valuation.specs.declared.search.kind.SearchKind.{SearchKind}
use Rattle.valuation.specs.declared.search.kind.SearchKind.TheVariants.{Plain, Bounded}
use Rattle.valuation.specs.Packings.{atom_at, IsPackingFor, atoms_at}
use Rattle.valuation.specs.Lemmas.Inside.{atoms_at-filter}
use Rattle.valuation.specs.Lemmas.SearchSteps.{found_indices-packing}
use Rattle.valuation.specs.SearchSteps.{found_indices}
use Rattle.valuation.specs.Values.{or_value}
use Rattle.prune.specs.Fates.{indices_below, found_points, or_fate, xor_fate}
use Rattle.prune.specs.Reached.{IsPointFor}
use Rattle.prune.specs.SearchSteps.{is_below, atoms_below, in_search_order}
use Rattle.prune.specs.Lemmas.Lists.{All-from_Contains, Contains-filter_parts, filter-lost, filter_same_on, find_same_on, found_some}
use Rattle.valuation.specs.Lemmas.PackingIndices.{packing_rising}
use Rattle.prune.specs.Lemmas.PackingIndices.{map-reverse, packing_falling, reversed_falling, reversed_within}
use Rattle.prune.specs.Lemmas.Ranges.{in_range, range_more, range_rising}
use Rattle.prune.specs.Lemmas.SearchSteps.{ordered_value}

-- ---- one more point

pub atoms_below-push : (points : List (Atom (List ℕ))) (x : Atom (List ℕ)) (bundle : List ℕ) → is_below x.bundle bundle ≡ false
    → atoms_below (points ++ x ∷ []) bundle ≡ atoms_below points bundle
atoms_below-push points x bundle n = search (rules, filter-append, filter-lost, append-nil)

atom_at-push : (points : List (Atom (List ℕ))) (x : Atom (List ℕ)) (index : ℕ) → index < length points → atom_at (points ++ x ∷ []) index ≡ atom_at points index
atom_at-push points x index l = get_or_append_left points (x ∷ []) (record { bundle = []; price = 0 }) index l

pub indices_below-within : (points : List (Atom (List ℕ))) (bundle : List ℕ) (index : ℕ) → Contains (indices_below points bundle) index
    → (index < length points) × (is_below (atom_at points index).bundle bundle ≡ true)
indices_below-within points bundle index c =
    let parts = Contains-filter_parts (λ index. is_below (atom_at points index).bundle bundle) (range_with_len 0 (length points)) index c in
    (in_range (length points) index parts.0, parts.1)

pub indices_below-push : (points : List (Atom (List ℕ))) (x : Atom (List ℕ)) (bundle : List ℕ) → is_below x.bundle bundle ≡ false
    → indices_below (points ++ x ∷ []) bundle ≡ indices_below points bundle
indices_below-push points x bundle n =
    let more = points ++ x ∷ [] in
    let count = length points in
    let test : ℕ → Bool = λ index. is_below (atom_at more index).bundle bundle in
    let own : ℕ → Bool = λ index. is_below (atom_at points index).bundle bundle in
    let zero_more : 0 + count ≡ count = omega arith in
    let last : test count ≡ false =
    ap (λ (a : Atom (List ℕ)). is_below a.bundle bundle) (get_or_push points x (record { bundle = []; price = 0 }) count refl) ∙ n in
    ap (λ m. filter test (range_with_len 0 m)) (length_push points x)
    ∙ ap (filter test) (range_more 0 count ∙ ap (λ m. range_with_len 0 count ++ m ∷ []) zero_more) ∙ filter-append test (range_with_len 0 count) (count ∷ [])
    ∙ ap (λ (zs : List ℕ). filter test (range_with_len 0 count) ++ zs) (filter-lost test count [] last) ∙ append-nil (filter test (range_with_len 0 count))
    ∙ filter_same_on test own (range_with_len 0 count) (All-from_Contains (λ index. test index ≡ own index) (range_with_len 0 count)
    (λ index c. ap (λ (a : Atom (List ℕ)). is_below a.bundle bundle) (atom_at-push points x index (in_range count index c))))

pub or_fate-push : (kind : SearchKind) (points : List (Atom (List ℕ))) (x bid : Atom (List ℕ)) → is_below x.bundle bid.bundle ≡ false
    → or_fate kind (points ++ x ∷ []) bid ≡ or_fate kind points bid
unfolding or_fate found_points
or_fate-push kind points x bid n = rw (atoms_below-push points x bid.bundle n, indices_below-push points x bid.bundle n) refl

pub xor_fate-push : (points : List (Atom (List ℕ))) (x bid : Atom (List ℕ)) → is_below x.bundle bid.bundle ≡ false
    → xor_fate (points ++ x ∷ []) bid ≡ xor_fate points bid
unfolding xor_fate
xor_fate-push points x bid n =
    let more = points ++ x ∷ [] in
    let test : ℕ → Bool = λ index. leb bid.price (atom_at more index).price in
    let own : ℕ → Bool = λ index. leb bid.price (atom_at points index).price in
    ap (find test) (indices_below-push points x bid.bundle n)
    ∙ find_same_on test own (indices_below points bid.bundle) (All-from_Contains (λ index. test index ≡ own index) (indices_below points bid.bundle)
    (λ index c. ap (λ (a : Atom (List ℕ)). leb bid.price a.price) (atom_at-push points x index (indices_below-within points bid.bundle index c).0)))

-- ---- what a fate names reaches the price

indices_rising : (points : List (Atom (List ℕ))) (bundle : List ℕ) → AllPairs (λ i j. i < j) (indices_below points bundle)
indices_rising points bundle = search (rules, AllPairs-filter, range_rising)

all_within : (points : List (Atom (List ℕ))) (bundle : List ℕ) → All (λ index. index < length points) (indices_below points bundle)
all_within points bundle =
    All-from_Contains (λ index. index < length points) (indices_below points bundle) (λ index c. (indices_below-within points bundle index c).0)

atoms_at_below : (points : List (Atom (List ℕ))) (bundle : List ℕ) → atoms_at points (indices_below points bundle) ≡ atoms_below points bundle
atoms_at_below points bundle = atoms_at-filter (λ a. is_below a.bundle bundle) points

searched_packing : (kind : SearchKind) (points : List (Atom (List ℕ))) (bundle : List ℕ) (price : ℕ) → price ≤ or_value (atoms_below points bundle) bundle
    → IsPackingFor (in_search_order kind (atoms_below points bundle)) bundle price
    (found_indices (in_search_order kind (atoms_below points bundle)) bundle price)
searched_packing kind points bundle price l =
    let searched = in_search_order kind (atoms_below points bundle) in
    let found = found_indices-packing searched bundle price (rw (ordered_value kind (atoms_below points bundle) bundle) l) in
    record { packing = found.0; enough = found.1 }

pub found_points-packing : (kind : SearchKind) (points : List (Atom (List ℕ))) (bundle : List ℕ) (price : ℕ)
    → price ≤ or_value (atoms_below points bundle) bundle → IsPackingFor points bundle price (found_points kind points bundle price)
unfolding found_points
found_points-packing Plain points bundle price l =
    packing_rising points bundle price (indices_below points bundle) (found_indices (atoms_below points bundle) bundle price) (all_within points bundle)
    (indices_rising points bundle)
    (subst (λ (zs : List (Atom (List ℕ))). IsPackingFor zs bundle price (found_indices (atoms_below points bundle) bundle price))
    (sym (atoms_at_below points bundle)) (searched_packing Plain points bundle price l))
found_points-packing Bounded points bundle price l =
    let searched = reverse (atoms_below points bundle) in
    let same : atoms_at points (reverse (indices_below points bundle)) ≡ searched =
    map-reverse (atom_at points) (indices_below points bundle) ∙ ap (λ (zs : List (Atom (List ℕ))). reverse zs) (atoms_at_below points bundle) in
    packing_falling points bundle price (reverse (indices_below points bundle)) (found_indices searched bundle price)
    (reversed_within (length points) (indices_below points bundle) (all_within points bundle))
    (reversed_falling (indices_below points bundle) (indices_rising points bundle))
    (subst (λ (zs : List (Atom (List ℕ))). IsPackingFor zs bundle price (found_indices searched bundle price)) (sym same)
    (searched_packing Bounded points bundle price l))

pub or_fate-reaches : (kind : SearchKind) (points : List (Atom (List ℕ))) (bid : Atom (List ℕ))
    → IfSome (or_fate kind points bid) (λ indices. IsPackingFor points bid.bundle bid.price indices)
unfolding or_fate
or_fate-reaches kind points bid = search (rules, found_points-packing, leb-true)

pub xor_fate-reaches : (points : List (Atom (List ℕ))) (bid : Atom (List ℕ)) → IfSome (xor_fate points bid) (IsPointFor points bid.bundle bid.price)
unfolding xor_fate
xor_fate-reaches points bid =
    let test : ℕ → Bool = λ index. leb bid.price (atom_at points index).price in
    go (find test (indices_below points bid.bundle)) (found_some test (indices_below points bid.bundle))
  where
    go : (found : Option ℕ) → IfSome found (λ index. Contains (indices_below points bid.bundle) index × (leb bid.price (atom_at points index).price ≡ true))
        → IfSome found (IsPointFor points bid.bundle bid.price)
    go None h = tt
    go (Some index) h =
        let at = indices_below-within points bid.bundle index h.0 in
        record {
          within = at.0;
          inside = (and_parts (is_inside (atom_at points index).bundle bid.bundle) (not (is_inside bid.bundle (atom_at points index).bundle)) at.1).0;
          enough = leb-true _ _ h.1;
        }
