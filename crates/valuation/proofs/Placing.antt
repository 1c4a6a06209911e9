-- The turns of the loop that makes the auction of a file, by what the code knows of its vectors: an atom goes to the end of the OR
-- bidder's list, or of the list of one XOR bidder.
use Rattle.valuation.proofs.Common.{rules, ◌≡◌, ℕ, zero, suc, ◌+◌, ◌<◌, ◌≤◌, List, [], ◌∷◌, ◌++◌, length, map, get_or, set, take, replicate, Some, None}
use Rattle.valuation.proofs.Common.{Global, refl, common_steps, sym, ap, ap₂, ◌∙◌, arith, range_with_len, map_push, map-set, length-map, get_or-map, take_all}
use Rattle.valuation.proofs.Common.{length-map-range_with_len, get_or-map-range_with_len, PlainBid, PlainFile, Atom, atoms_of, atom_of, or_atoms_of}
use Rattle.valuation.proofs.Common.{xor_atoms_of, auction_from, bidders_of, plain_auction_of, or_atoms_of-more, xor_bidders-more}
use Rattle.std.specs.Prelude.{Vec}

module _ {S : Type 0} (goods : S → List ℕ) (bids : List PlainBid) (i : ℕ) (b : PlainBid) (l : i < length bids) (here : get_or bids i b ≡ b)
    (a : Atom S) (bundle : goods a.bundle ≡ b.goods) (price : a.price ≡ b.price) where
  seen : ◌≡◌ {A = Atom (List ℕ)} (record { bundle = goods a.bundle; price = a.price }) (atom_of b)
  seen = ap₂ (λ (xs : List ℕ) (p : ℕ). record { bundle = xs; price = p }) bundle price

  atoms-push : (atoms more : List (Atom S)) → more ≡ atoms ++ a ∷ [] → atoms_of goods more ≡ atoms_of goods atoms ++ atom_of b ∷ []
  atoms-push atoms more e = search (rules, map_push, seen)

  -- the atom goes to the OR bidder
  pub place-or : (atoms more : List (Atom S)) → b.dummy ≡ None → atoms_of goods atoms ≡ or_atoms_of (take i bids) → more ≡ atoms ++ a ∷ []
      → atoms_of goods more ≡ or_atoms_of (take (i + 1) bids)
  place-or atoms more n h e = grind (arith, common_steps, atoms-push, or_atoms_of-more)

  -- the atom goes to an XOR bidder
  pub place-xor : (bidders changed : List (Vec (Atom S) Global)) (old new : Vec (Atom S) Global) (d n : ℕ) → b.dummy ≡ Some d → d < n
      → bidders_of goods bidders ≡ map (xor_atoms_of (take i bids)) (range_with_len 0 n) → old ≡ get_or bidders d old → new.items ≡ old.items ++ a ∷ []
      → changed ≡ set bidders d new → bidders_of goods changed ≡ map (xor_atoms_of (take (i + 1) bids)) (range_with_len 0 n)
  place-xor bidders changed old new d n s m h is e c =
      let listed : Vec (Atom S) Global → List (Atom (List ℕ)) = λ v. atoms_of goods v.items in
      let long : length bidders ≡ n = sym (length-map bidders listed) ∙ ap (length {A = List (Atom (List ℕ))}) h
      ∙ length-map-range_with_len (xor_atoms_of (take i bids)) 0 n in
      let before : atoms_of goods old.items ≡ xor_atoms_of (take i bids) d =
      ap listed is ∙ sym (get_or-map listed bidders d old [] (omega arith)) ∙ ap (λ (xs : List (List (Atom (List ℕ)))). get_or xs d []) h
      ∙ get_or-map-range_with_len (xor_atoms_of (take i bids)) 0 n d d [] m (omega arith) in
      let after : listed new ≡ xor_atoms_of (take i bids) d ++ atom_of b ∷ [] = atoms-push old.items new.items e
      ∙ ap (λ (xs : List (Atom (List ℕ))). xs ++ atom_of b ∷ []) before in
      ap (bidders_of goods) c ∙ map-set listed bidders d new ∙ ap₂ (λ (xs : List (List (Atom (List ℕ)))) (x : List (Atom (List ℕ))). set xs d x) h after
      ∙ xor_bidders-more bids i b l here d s n m

-- how many bidders there are
pub length-bidders_of : {S : Type 0} (goods : S → List ℕ) (bidders : List (Vec (Atom S) Global)) (bids : List PlainBid) (n : ℕ)
    → bidders_of goods bidders ≡ map (xor_atoms_of bids) (range_with_len 0 n) → length bidders ≡ n
length-bidders_of {S} goods bidders bids n h = search (rules, length-map, length-map-range_with_len)

-- no bidder has an atom before the first bid
pub no_bids : (low n : ℕ) → replicate n [] ≡ map (xor_atoms_of []) (range_with_len low n)
no_bids low zero = refl
no_bids low (suc n) = ap (λ (xs : List (List (Atom (List ℕ)))). [] ∷ xs) (no_bids (low + 1) n)

-- after the last bid it is the auction of the file
pub placed : {S : Type 0} (goods : S → List ℕ) (f : PlainFile) (bids : List PlainBid) (i count : ℕ) (atoms : List (Atom S))
    (bidders : List (Vec (Atom S) Global))
    → bids ≡ f.bids → length bids ≤ i → count ≡ f.goods → atoms_of goods atoms ≡ or_atoms_of (take i bids)
    → bidders_of goods bidders ≡ map (xor_atoms_of (take i bids)) (range_with_len 0 f.dummy) → plain_auction_of goods count atoms bidders ≡ auction_from f
placed goods f bids i count atoms bidders e l n h k = search (rules, take_all)
