-- The file of an auction represents that auction, and keeps the limits of
use Rattle.canon.proofs.Common.{rules, ◌≡◌, ℕ, zero, suc, ◌+◌, ◌<◌, ◌≤◌, List, [], ◌∷◌, ◌++◌, length, map, Option, Some, None, refl, ap, ap₂, ◌∙◌, arith, All}
use Rattle.canon.proofs.Common.{sum_by, range_with_len, AllByRecursion, eq-eqb, ne_eqb, map-append, append-nil, length-append, length-map, All-head, All-tail}
use Rattle.canon.proofs.Common.{filter-append, sum_by-cons, PlainBid, IsDummyBelow, IsBid, IsPlainFile, Atom, PlainAuction, IsAtom, IsAuction, or_atoms_of}
use Rattle.canon.proofs.Common.{xor_atoms_of, auction_from, filter-kept, filter-lost, bid_from, dummy_bids, file_from}

-- ---- the bids of a bidder, among those of a list

or_atoms_of-append : (xs ys : List PlainBid) → or_atoms_of (xs ++ ys) ≡ or_atoms_of xs ++ or_atoms_of ys
or_atoms_of-append xs ys = search (rules, filter-append, map-append)

xor_atoms_of-append : (xs ys : List PlainBid) (d : ℕ) → xor_atoms_of (xs ++ ys) d ≡ xor_atoms_of xs d ++ xor_atoms_of ys d
xor_atoms_of-append xs ys d = search (rules, filter-append, map-append)

or_of_or : (atoms : List (Atom (List ℕ))) → or_atoms_of (map (bid_from None) atoms) ≡ atoms
or_of_or [] = refl
or_of_or (a ∷ rest) = ap (λ (zs : List (Atom (List ℕ))). a ∷ zs) (or_of_or rest)

or_of_bidder : (d : ℕ) (atoms : List (Atom (List ℕ))) → or_atoms_of (map (bid_from (Some d)) atoms) ≡ []
or_of_bidder d [] = refl
or_of_bidder d (a ∷ rest) = or_of_bidder d rest

or_of_bidders : (d : ℕ) (bidders : List (List (Atom (List ℕ)))) → or_atoms_of (dummy_bids d bidders) ≡ []
or_of_bidders d [] = refl
or_of_bidders d (bidder ∷ bidders) = search (rules, or_atoms_of-append, or_of_bidder, (or_of_bidders (d + 1) bidders))

xor_of_or : (atoms : List (Atom (List ℕ))) (d : ℕ) → xor_atoms_of (map (bid_from None) atoms) d ≡ []
xor_of_or [] d = refl
xor_of_or (a ∷ rest) d = xor_of_or rest d

xor_of_itself : (d : ℕ) (atoms : List (Atom (List ℕ))) → xor_atoms_of (map (bid_from (Some d)) atoms) d ≡ atoms
xor_of_itself d [] = refl
xor_of_itself d (a ∷ rest) = search (rules, filter-kept, eq-eqb, (xor_of_itself d rest))

xor_of_other : (e d : ℕ) → (e ≡ d → ⊥) → (atoms : List (Atom (List ℕ))) → xor_atoms_of (map (bid_from (Some e)) atoms) d ≡ []
xor_of_other e d differ [] = refl
xor_of_other e d differ (a ∷ rest) = search (rules, filter-lost, ne_eqb, (xor_of_other e d differ rest))

xor_of_later : (d : ℕ) (bidders : List (List (Atom (List ℕ)))) (k : ℕ) → k < d → xor_atoms_of (dummy_bids d bidders) k ≡ []
xor_of_later d [] k l = refl
xor_of_later d (bidder ∷ bidders) k l = search (rules, xor_atoms_of-append, xor_of_other, (xor_of_later (d + 1) bidders k (omega arith)))

-- ---- the auction of the file

map_range_same : {X : Type 0} (f g : ℕ → X) (low n : ℕ) → ((k : ℕ) → low ≤ k → f k ≡ g k) → map f (range_with_len low n) ≡ map g (range_with_len low n)
map_range_same f g low zero h = refl
map_range_same {X} f g low (suc n) h = ap₂ (λ (x : X) (xs : List X). x ∷ xs) (h low (omega arith)) (map_range_same f g (low + 1) n (λ k l. h k (omega arith)))

bidders_again : (d : ℕ) (bidders : List (List (Atom (List ℕ)))) → map (xor_atoms_of (dummy_bids d bidders)) (range_with_len d (length bidders)) ≡ bidders
bidders_again d [] = refl
bidders_again d (bidder ∷ bidders) =
    search (rules, xor_atoms_of-append, xor_of_itself, xor_of_later, append-nil, map_range_same, xor_of_other, (bidders_again (d + 1) bidders))

pub auction_from-file_from : (a : PlainAuction) → auction_from (file_from a) ≡ a
auction_from-file_from a =
    let ors = map (bid_from None) a.or_atoms in
    let dummies = dummy_bids 0 a.xor_bidders in
    ap₂ (λ (or_atoms : List (Atom (List ℕ))) (xor_bidders : List (List (Atom (List ℕ)))). record {
      goods = a.goods;
      or_atoms = or_atoms;
      xor_bidders = xor_bidders;
    })
    (or_atoms_of-append ors dummies ∙ ap₂ (λ (xs ys : List (Atom (List ℕ))). xs ++ ys) (or_of_or a.or_atoms) (or_of_bidders 0 a.xor_bidders)
    ∙ append-nil a.or_atoms)
    (map_range_same (xor_atoms_of (ors ++ dummies)) (xor_atoms_of dummies) 0 (length a.xor_bidders)
    (λ k l. xor_atoms_of-append ors dummies k ∙ ap (λ (xs : List (Atom (List ℕ))). xs ++ xor_atoms_of dummies k) (xor_of_or a.or_atoms k))
    ∙ bidders_again 0 a.xor_bidders)

-- ---- the limits of files

IsBid-from : (G D : ℕ) (dummy : Option ℕ) (a : Atom (List ℕ)) → IsDummyBelow D dummy → IsAtom G a → IsBid G D (bid_from dummy a)
IsBid-from G D dummy a d h = search rules

each_append : (P : PlainBid → Type 0) (xs ys : List PlainBid) → AllByRecursion P xs → AllByRecursion P ys → AllByRecursion P (xs ++ ys)
each_append P [] ys h k = k
each_append P (x ∷ xs) ys h k = (h.0, each_append P xs ys h.1 k)

each_from : (G D : ℕ) (dummy : Option ℕ) → IsDummyBelow D dummy → (atoms : List (Atom (List ℕ))) → All (IsAtom G) atoms
    → AllByRecursion (IsBid G D) (map (bid_from dummy) atoms)
each_from G D dummy d [] h = tt
each_from G D dummy d (a ∷ rest) h = (IsBid-from G D dummy a d (All-head (IsAtom G) a rest h), each_from G D dummy d rest (All-tail (IsAtom G) a rest h))

each_of_bidders : (G D d : ℕ) (bidders : List (List (Atom (List ℕ)))) → d + length bidders ≤ D → All (All (IsAtom G)) bidders
    → AllByRecursion (IsBid G D) (dummy_bids d bidders)
each_of_bidders G D d [] l h = tt
each_of_bidders G D d (bidder ∷ bidders) l h =
    each_append (IsBid G D) (map (bid_from (Some d)) bidder) (dummy_bids (d + 1) bidders)
    (each_from G D (Some d) (omega arith) bidder (All-head (All (IsAtom G)) bidder bidders h))
    (each_of_bidders G D (d + 1) bidders (omega arith) (All-tail (All (IsAtom G)) bidder bidders h))

pub length-dummy_bids : (d : ℕ) (bidders : List (List (Atom (List ℕ)))) → length (dummy_bids d bidders) ≡ sum_by length bidders
length-dummy_bids d [] = refl
length-dummy_bids d (bidder ∷ bidders) = search (rules, length-map, length-append, sum_by-cons, (length-dummy_bids (d + 1) bidders))

pub IsPlainFile-file_from : (cap : ℕ) (a : PlainAuction) → IsAuction cap a → IsPlainFile (file_from a)
IsPlainFile-file_from cap a h = record {
  goods = h.goods;
  dummy = h.bidders;
  count = search (rules, length-map, length-append, length-dummy_bids);
  each = each_append (IsBid a.goods (length a.xor_bidders)) (map (bid_from None) a.or_atoms) (dummy_bids 0 a.xor_bidders)
      (each_from a.goods (length a.xor_bidders) None tt a.or_atoms h.or_atoms)
      (each_of_bidders a.goods (length a.xor_bidders) 0 a.xor_bidders (omega arith) h.xor_atoms);
}
