-- Bidders are ordered by their keys, where these differ: the bundles of the first atoms are then in the order of the keys, so that these
-- atoms settle it, or one bidder has no atom.
use Rattle.canon.proofs.Common.{rules, ◌≡◌, ℕ, List, [], ◌∷◌, Ordering, Less, Equal, Greater, refl, sym, ap, nat_cmp, Some, None, slice_get, ordering_then}
use Rattle.canon.proofs.Common.{AreBelow, sort_key_of, order_by_key, nat_cmp-lt, nat_cmp-gt, nat_cmp-refl, Atom, bidder_cmp, atoms_of, bidder_key}
use Rattle.canon.proofs.CanonicalFiles.Bidders.{positive}

-- what comes first decides, unless it is equal
first_decides : (o price rest : Ordering) → (o ≡ Equal → ⊥) → o ≡ ordering_then (ordering_then o price) rest
first_decides Less price rest n = refl
first_decides Equal price rest n = absurd (n refl)
first_decides Greater price rest n = refl

pub decided : (o rest : Ordering) → (o ≡ Equal → ⊥) → o ≡ ordering_then o rest
decided Less rest n = refl
decided Equal rest n = absurd (n refl)
decided Greater rest n = refl

pub order_by_bidder_key : {S : Type 0} (goods : S → List ℕ) → ((s : S) → AreBelow 65536 (goods s)) → (one other : List (Atom S))
    → (nat_cmp (bidder_key (atoms_of goods one)) (bidder_key (atoms_of goods other)) ≡ Equal → ⊥)
    → nat_cmp (bidder_key (atoms_of goods one)) (bidder_key (atoms_of goods other)) ≡ bidder_cmp (atoms_of goods one) (atoms_of goods other)
order_by_bidder_key goods below [] [] n = absurd (n (nat_cmp-refl 0))
order_by_bidder_key goods below [] (b ∷ others) n = search (rules, nat_cmp-lt, positive, nat_cmp-refl)
order_by_bidder_key goods below (a ∷ ones) [] n = search (rules, nat_cmp-gt, positive, nat_cmp-refl)
order_by_bidder_key goods below (a ∷ ones) (b ∷ others) n = search (rules, order_by_key, first_decides)

-- ---- from the first atom, if there is one

pub key_of_first : {S : Type 0} (goods : S → List ℕ) (atoms : List (Atom S)) (first : Atom S) → slice_get atoms 0 ≡ Some first
    → sort_key_of (goods first.bundle) ≡ bidder_key (atoms_of goods atoms)
key_of_first goods [] first e = absurd (cc)
key_of_first {S} goods (a ∷ atoms) first e = let same : a ≡ first = cc in ap (λ (b : Atom S). sort_key_of (goods b.bundle)) (sym same)

pub key_of_none : {S : Type 0} (goods : S → List ℕ) (atoms : List (Atom S)) → slice_get atoms 0 ≡ None → 0 ≡ bidder_key (atoms_of goods atoms)
key_of_none goods [] e = refl
key_of_none goods (a ∷ atoms) e = absurd (cc)
