-- Bidders that are compared atom by atom.
use Rattle.std.proofs.Common.{◌≡◌, ℕ, ◌+◌, ◌<◌, List, length, drop, get_or, ap₂}
use Rattle.std.specs.Ordering.{ordering_then}
use Rattle.valuation.specs.declared.atom.Atom.{Atom}
use Rattle.valuation.specs.Values.{plain_atom, atoms_of}
use Rattle.valuation.specs.Orders.{atom_cmp, bidder_cmp}
use Rattle.valuation.specs.Lemmas.Atoms.{drop-atoms_of}

-- what the atoms from an index on answer, by the two that are there
pub bidder_cmp-drop : {S : Type 0} (goods : S → List ℕ) (xs ys : List (Atom S)) (i : ℕ) (x y : Atom S) → i < length xs → i < length ys → x ≡ get_or xs i x
    → y ≡ get_or ys i y
    → bidder_cmp (drop i (atoms_of goods xs)) (drop i (atoms_of goods ys)) ≡ ordering_then (atom_cmp (plain_atom goods x) (plain_atom goods y))
    (bidder_cmp (drop (i + 1) (atoms_of goods xs)) (drop (i + 1) (atoms_of goods ys)))
bidder_cmp-drop goods xs ys i x y l m e f = ap₂ bidder_cmp (drop-atoms_of goods xs i x l e) (drop-atoms_of goods ys i y m f)
