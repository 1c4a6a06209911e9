-- Lemmas on the atoms of a list, seen as their lists of goods and their prices.
use Rattle.std.proofs.Common.{rules, arith, ◌≡◌, ℕ, ◌+◌, ◌<◌, List, [], ◌∷◌, ◌++◌, length, drop, get_or}
use Rattle.std.proofs.lemmas.Grind.{common_steps}
use Rattle.std.specs.Prelude.{All}
use Rattle.std.proofs.lemmas.List.{drop-map, drop_more, length-map, get_or-map, map_push}
use Rattle.std.proofs.lemmas.List.Elements.{All-push}
use Rattle.valuation.specs.declared.atom.Atom.{Atom}
use Rattle.valuation.specs.Values.{atoms_of}

pub length-atoms_of : {S : Type 0} (goods : S → List ℕ) (atoms : List (Atom S)) → length (atoms_of goods atoms) ≡ length atoms
length-atoms_of {S} goods atoms = length-map atoms (λ (b : Atom S). record { bundle = goods b.bundle; price = b.price })

-- the atom at an index, which a read of that index gave
pub get_or-atoms_of : {S : Type 0} (goods : S → List ℕ) (atoms : List (Atom S)) (i : ℕ) (a : Atom S) (d : Atom (List ℕ)) → i < length atoms
    → a ≡ get_or atoms i a → get_or (atoms_of goods atoms) i d ≡ record { bundle = goods a.bundle; price = a.price }
get_or-atoms_of {S} goods atoms i a d l e = search (rules, get_or-map)

-- that atom and those behind it
pub drop-atoms_of : {S : Type 0} (goods : S → List ℕ) (atoms : List (Atom S)) (i : ℕ) (a : Atom S) → i < length atoms → a ≡ get_or atoms i a
    → drop i (atoms_of goods atoms) ≡ record { bundle = goods a.bundle; price = a.price } ∷ drop (i + 1) (atoms_of goods atoms)
drop-atoms_of {S} goods atoms i a l e = search (rules, drop-map, drop_more)

-- one more atom of which it holds
pub All-atoms_of-push : {S : Type 0} (goods : S → List ℕ) (P : Atom (List ℕ) → Type 0) (atoms more : List (Atom S)) (a : Atom S) → more ≡ atoms ++ a ∷ []
    → All P (atoms_of goods atoms) → P (record { bundle = goods a.bundle; price = a.price }) → All P (atoms_of goods more)
All-atoms_of-push {S} goods P atoms more a e h p = grind (arith, common_steps, map_push, All-push)
