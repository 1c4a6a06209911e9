-- The turns of a pruning's loop, by what the code knows of its variables: each is one of proofs/Results, once the code's lists are seen
-- by the goods of their sets.
use Rattle.prune.proofs.Common.{rules, ◌≡◌, ℕ, ◌+◌, ◌<◌, ◌≤◌, leb, List, [], ◌∷◌, ◌++◌, length, take, drop, get_or, sym, ap, ◌∙◌, subst, arith, common_steps}
use Rattle.prune.proofs.Common.{All, list_any, cases_lt, le-leb, lt-leb, map-append, map_push, drop_all, take_all, All-nil, All-cons, All-head, All-tail}
use Rattle.prune.proofs.Common.{filter_passes, IsRising, is_inside, IsInside, Atom, atoms_of, xor_value, plain_atom, xor_value-nil}
use Rattle.prune.proofs.Common.{xor_value-inside, list_any_filter, dominates, AreBestBids, atoms_inside, IsValue, Bool}
use Rattle.prune.proofs.Pruning.{HasRisingBundle, IsKept}
use Rattle.prune.proofs.Results.{IsTurn, ArePoints, all_done}
use Rattle.prune.proofs.Prefixes.{IsLeft, next_parts, next_taken, next_drop}

-- ---- atoms of the code

module _ {S : Type 0} (goods : S → List ℕ) (rising : (s : S) → IsRising (goods s)) where
  pub all_rising : (atoms : List (Atom S)) → All HasRisingBundle (atoms_of goods atoms)
  all_rising [] = All-nil HasRisingBundle
  all_rising (a ∷ rest) = All-cons HasRisingBundle (plain_atom goods a) (atoms_of goods rest) (rising a.bundle) (all_rising rest)

  -- the next bid
  pub next_turn : (bids : List (Atom (List ℕ))) (best now : List (Atom S)) (index : ℕ) (bid : Atom S) → AreBestBids bids (atoms_of goods best)
      → IsLeft best now index → index < length now → bid ≡ get_or now index bid
      → IsTurn bids (atoms_of goods (take index best)) (plain_atom goods bid) (atoms_of goods (drop (index + 1) best))
  next_turn bids best now index bid b h l is =
      let parts : atoms_of goods best ≡ atoms_of goods (take index best) ++ plain_atom goods bid ∷ atoms_of goods (drop (index + 1) best) =
      ap (atoms_of goods) (next_parts best now index bid h l is) ∙ map-append (plain_atom goods) (take index best) (bid ∷ drop (index + 1) best) in
      search (rules, All, HasRisingBundle, all_rising)

-- the next bid is done
pub one_done : {S : Type 0} (goods : S → List ℕ) (best now : List (Atom S)) (index : ℕ) (bid : Atom S) → IsLeft best now index → index < length now
    → bid ≡ get_or now index bid → atoms_of goods (take (index + 1) best) ≡ atoms_of goods (take index best) ++ plain_atom goods bid ∷ []
one_done goods best now index bid h l is = grind (arith, common_steps, next_taken, map_push)

-- and it is kept
pub one_kept : {S : Type 0} (goods : S → List ℕ) (now after : List (Atom S)) (kept index : ℕ) (bid : Atom S) → bid ≡ get_or now index bid
    → ((d : Atom S) → take (kept + 1) after ≡ take kept now ++ get_or now index d ∷ [])
    → atoms_of goods (take (kept + 1) after) ≡ atoms_of goods (take kept now) ++ plain_atom goods bid ∷ []
one_kept {S} goods now after kept index bid is e = search (rules, map_push)

-- ---- the loop's end

module _ {X : Type 0} {On : ℕ → Atom (List ℕ) → Type 0} {value : List (Atom (List ℕ)) → List ℕ → ℕ} {Splits : List ℕ → X → Type 0}
    {worth : (List ℕ → ℕ) → List ℕ → X → ℕ} {passes : ℕ → List (Atom (List ℕ)) → List ℕ → Bool} (V : IsValue On value Splits worth passes) where
  pub loop_end : {S : Type 0} (goods : S → List ℕ) (n : ℕ) (bids : List (Atom (List ℕ))) (best kept result : List (Atom S)) (index : ℕ) → All (On n) bids
      → AreBestBids bids (atoms_of goods best) → IsKept V (atoms_of goods (take index best)) (atoms_of goods kept) → length best ≤ index → result ≡ kept
      → ArePoints V bids (atoms_of goods result)
  loop_end {S} goods n bids best kept result index on b k l e =
      let all = subst (λ (zs : List (Atom S)). IsKept V (atoms_of goods zs) (atoms_of goods kept)) (take_all index best l) k in
      rw e (all_done V n bids (atoms_of goods best) (atoms_of goods kept) on b all)

-- ---- an atom of a list of atoms inside a bundle has a price

price_reached : (price : ℕ) → 0 < price → (bundle : List ℕ) (atoms : List (Atom (List ℕ))) → All (λ a. IsInside a.bundle bundle) atoms
    → list_any (λ a. leb price a.price) atoms ≡ leb price (xor_value atoms bundle)
price_reached price l bundle [] h = sym (ap (leb price) (xor_value-nil bundle) ∙ lt-leb price 0 l)
price_reached price l bundle (a ∷ rest) h =
    let again = price_reached price l bundle rest (All-tail (λ a. IsInside a.bundle bundle) a rest h) in
    search (rules, xor_value-inside, All-head, All-tail, lt-leb, le-leb, cases_lt, again)

-- whether a kept atom inside the bundle has the price
pub dominates_is : (price : ℕ) (bundle : List ℕ) (kept : List (Atom (List ℕ))) → 0 < price
    → list_any (dominates bundle price) kept ≡ leb price (xor_value (atoms_inside kept bundle) bundle)
dominates_is price bundle kept l =
    list_any_filter (λ (a : Atom (List ℕ)). leb price a.price) (λ (a : Atom (List ℕ)). is_inside a.bundle bundle) kept
    ∙ price_reached price l bundle (atoms_inside kept bundle) (filter_passes (λ a. is_inside a.bundle bundle) kept)

-- ---- the bids that are left

-- the next one is the first of them
pub one_left : {S : Type 0} (goods : S → List ℕ) (best now : List (Atom S)) (index : ℕ) (bid : Atom S) → IsLeft best now index → index < length now
    → bid ≡ get_or now index bid → atoms_of goods (drop index best) ≡ plain_atom goods bid ∷ atoms_of goods (drop (index + 1) best)
one_left {S} goods best now index bid h l is = ap (atoms_of goods) (next_drop best now index bid h l is)

-- behind the last one there is none
pub none_left : {S : Type 0} (goods : S → List ℕ) (best : List (Atom S)) (index : ℕ) → length best ≤ index → atoms_of goods (drop index best) ≡ []
none_left goods best index l = ap (atoms_of goods) (drop_all index best l)
