-- What contracts see of an auction's lists.
use Rattle.std.specs.Prelude.{ℕ, map, List, Vec}
use Rattle.std.specs.Global.{Global}
use Rattle.valuation.specs.declared.atom.Atom.{Atom}
use Rattle.valuation.specs.Values.{atoms_of}
use Rattle.valuation.specs.Auctions.{PlainAuction}

-- XOR bidders of the code as values
abbrev pub bidders_of : {S : Type 0} → (S → List ℕ) → List (Vec (Atom S) Global) → List (List (Atom (List ℕ)))
bidders_of goods bidders = map (λ b. atoms_of goods b.items) bidders

-- an auction of the code as a value, by its lists
abbrev pub plain_auction_of : {S : Type 0} → (S → List ℕ) → ℕ → List (Atom S) → List (Vec (Atom S) Global)
    → PlainAuction
plain_auction_of goods count atoms bidders = record {
  goods = count;
  or_atoms = atoms_of goods atoms;
  xor_bidders = bidders_of goods bidders;
}
