-- Auctions and files for worked examples. Prices are millionths.
use Rattle.std.specs.Prelude.{ℕ, List}
use Rattle.valuation.specs.declared.atom.Atom.{Atom}
use Rattle.valuation.specs.Auctions.{PlainAuction}

abbrev pub auction : ℕ → List (Atom (List ℕ)) → List (List (Atom (List ℕ))) → PlainAuction
auction goods or_atoms xor_bidders = record { goods = goods; or_atoms = or_atoms; xor_bidders = xor_bidders }
