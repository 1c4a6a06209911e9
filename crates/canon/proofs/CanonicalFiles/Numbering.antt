-- Bidders with their numbers: one more at the end, what is left without the numbers, and the numbers of those that are in the canonical auction.
use Rattle.canon.proofs.Common.{◌≡◌, ℕ, zero, suc, ◌+◌, ◌<◌, ◌≤◌, Bool, List, [], ◌∷◌, ◌++◌, length, map, take, get_or, refl, sym, ap, ap₂, ◌∙◌, arith, Equal}
use Rattle.canon.proofs.Common.{IsTotalOrder, nat_cmp-IsAntisymmetric, filter, range_with_len, nat_cmp_total, on_total, then_total, append-nil, map-append}
use Rattle.canon.proofs.Common.{map-id, map_push, take_all, take_more, filter-append, map-map, All, PlainFile, Atom, IsAtom, auction_from, xor_atoms_of}
use Rattle.canon.proofs.Common.{bidder_cmp_total, bidder_cmp_equal, bidder_cmp, sort_by, xor_table, is_nonzero, on_bundles, filter-kept, filter-lost}
use Rattle.canon.proofs.Common.{no_xor_points, xor_points, points_of_bidders, points_of_dummy, dummy_cmp, kept_dummies, NumberedBidder, numbered_from}
use Rattle.canon.proofs.Common.{points_of_numbered, numbered_points, numbered_cmp, kept_numbers, filter-map, sort_by-map, then_not_less, then_equal}
use Rattle.canon.proofs.Common.{dummy_cmp_total, nonzero_dummies, common_steps, rules, nat_cmp}

-- ---- the order

pub numbered_cmp_total : IsTotalOrder numbered_cmp
numbered_cmp_total = then_total (on_total (λ (b : NumberedBidder). b.atoms) bidder_cmp_total) (on_total (λ (b : NumberedBidder). b.number) nat_cmp_total)

pub numbered_cmp_equal : (a b : NumberedBidder) → numbered_cmp a b ≡ Equal → a ≡ b
numbered_cmp_equal a b e =
    let parts = then_equal (bidder_cmp a.atoms b.atoms) (nat_cmp a.number b.number) e in
    ap₂ (λ (number : ℕ) (atoms : List (Atom (List ℕ))). record { number = number; atoms = atoms })
    (nat_cmp-IsAntisymmetric a.number b.number parts.1) (bidder_cmp_equal a.atoms b.atoms parts.0)

-- ---- one more bidder at the end

abbrev with_number : ℕ → List (Atom (List ℕ)) → NumberedBidder
with_number n bidder = record { number = n; atoms = bidder }

abbrev asks : ℕ → NumberedBidder → Bool
asks goods b = is_nonzero (xor_table b.atoms goods)

numbered-push : (n : ℕ) (done : List (List (Atom (List ℕ)))) (bidder : List (Atom (List ℕ))) (last : ℕ) → last ≡ n + length done
    → numbered_from n (done ++ bidder ∷ []) ≡ numbered_from n done ++ with_number last bidder ∷ []
numbered-push n [] bidder last e = let same : n ≡ last = omega arith in ap (λ (k : ℕ). with_number k bidder ∷ []) same
numbered-push n (b ∷ done) bidder last e =
    let same : last ≡ n + 1 + length done = omega arith in
    ap (λ (zs : List NumberedBidder). with_number n b ∷ zs) (numbered-push (n + 1) done bidder last same)

module _ (goods : ℕ) (done : List (List (Atom (List ℕ)))) (bidder points : List (Atom (List ℕ))) (atoms : All (IsAtom goods) bidder)
    (are : points ≡ xor_points goods bidder) where
  parts : numbered_points goods (done ++ bidder ∷ []) ≡ numbered_points goods done
      ++ map (points_of_numbered goods) (filter (asks goods) (with_number (length done) bidder ∷ []))
  parts =
      let count : length done ≡ 0 + length done = omega arith in
      ap (λ (bs : List NumberedBidder). map (points_of_numbered goods) (filter (asks goods) bs)) (numbered-push 0 done bidder (length done) count)
      ∙ ap (map (points_of_numbered goods)) (filter-append (asks goods) (numbered_from 0 done) (with_number (length done) bidder ∷ []))
      ∙ map-append (points_of_numbered goods) (filter (asks goods) (numbered_from 0 done)) (filter (asks goods) (with_number (length done) bidder ∷ []))

  -- a bidder with points adds them
  pub points_push : (points ≡ [] → ⊥) → numbered_points goods (done ++ bidder ∷ [])
      ≡ numbered_points goods done ++ record { number = length done; atoms = points } ∷ []
  points_push some = grind (arith, common_steps, parts, filter-kept, no_xor_points, on_bundles)

  -- one without points adds nothing
  pub points_skip : points ≡ [] → numbered_points goods (done ++ bidder ∷ []) ≡ numbered_points goods done
  points_skip none = search (rules, parts, filter-lost, no_xor_points, on_bundles, append-nil)

-- ---- without the numbers

numbered-atoms : (n : ℕ) (bidders : List (List (Atom (List ℕ)))) → map (λ b. b.atoms) (numbered_from n bidders) ≡ bidders
numbered-atoms n [] = refl
numbered-atoms n (bidder ∷ bidders) = ap (λ (bs : List (List (Atom (List ℕ)))). bidder ∷ bs) (numbered-atoms (n + 1) bidders)

atoms_of_points : (goods : ℕ) (bidders : List (List (Atom (List ℕ)))) → map (λ b. b.atoms) (numbered_points goods bidders) ≡ points_of_bidders goods bidders
atoms_of_points goods bidders =
    let asks : List (Atom (List ℕ)) → Bool = λ bidder. is_nonzero (xor_table bidder goods) in
    let kept = filter (λ b. is_nonzero (xor_table b.atoms goods)) (numbered_from 0 bidders) in
    map-map (λ (b : NumberedBidder). b.atoms) (points_of_numbered goods) kept ∙ sym (map-map (xor_points goods) (λ (b : NumberedBidder). b.atoms) kept)
    ∙ ap (map (xor_points goods)) (sym (filter-map asks (λ (b : NumberedBidder). b.atoms) (numbered_from 0 bidders))
    ∙ ap (filter asks) (numbered-atoms 0 bidders))

pub atoms_in_order : (goods : ℕ) (bidders : List (List (Atom (List ℕ))))
    → map (λ b. b.atoms) (sort_by numbered_cmp (numbered_points goods bidders)) ≡ sort_by bidder_cmp (points_of_bidders goods bidders)
atoms_in_order goods bidders = search (rules, sort_by-map, numbered_cmp_total, bidder_cmp_total, bidder_cmp_equal, then_not_less, atoms_of_points)

-- ---- the numbers alone, one by one

pub one_more_number : {X : Type 0} (number : X → ℕ) (xs : List X) (so_far more : List ℕ) (i : ℕ) (x : X) → i < length xs → x ≡ get_or xs i x
    → so_far ≡ map number (take i xs) → more ≡ so_far ++ number x ∷ [] → more ≡ map number (take (i + 1) xs)
one_more_number {X} number xs so_far more i x l is h e = grind (arith, common_steps, take_more, map_push)

pub all_numbers : {X : Type 0} (number : X → ℕ) (xs : List X) (so_far : List ℕ) (i : ℕ) → length xs ≤ i → so_far ≡ map number (take i xs)
    → so_far ≡ map number xs
all_numbers number xs so_far i l h = h ∙ ap (map number) (take_all i xs l)

-- ---- the numbers are the dummy goods of a file

abbrev named : PlainFile → ℕ → NumberedBidder
named f d = with_number d (points_of_dummy f d)

numbered-range : (f : PlainFile) (n count : ℕ) → numbered_from n (map (xor_atoms_of f.bids) (range_with_len n count))
    ≡ map (λ d. with_number d (xor_atoms_of f.bids d)) (range_with_len n count)
numbered-range f n zero = refl
numbered-range f n (suc count) = ap (λ (bs : List NumberedBidder). with_number n (xor_atoms_of f.bids n) ∷ bs) (numbered-range f (n + 1) count)

numbered_points_are : (f : PlainFile) → numbered_points f.goods (auction_from f).xor_bidders ≡ map (named f) (nonzero_dummies f)
numbered_points_are f = search (rules, numbered-range, filter-map, map-map)

pub kept_numbers_are : (f : PlainFile) → kept_numbers (auction_from f) ≡ kept_dummies f
kept_numbers_are f =
    ap (λ (bs : List NumberedBidder). map (λ b. b.number) (sort_by numbered_cmp bs)) (numbered_points_are f)
    ∙ ap (map (λ b. b.number)) (sym (sort_by-map (dummy_cmp f) numbered_cmp (named f) (dummy_cmp_total f) numbered_cmp_total numbered_cmp_equal
    (λ d e h. h) (nonzero_dummies f))) ∙ map-map (λ (b : NumberedBidder). b.number) (named f) (kept_dummies f) ∙ map-id (kept_dummies f)
