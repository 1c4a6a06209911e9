-- The order of the bidders of a canonical auction.
use Rattle.std.specs.Prelude.{◌≡◌, ℕ, List, false, AllPairs}
use Rattle.std.specs.Ordering.{is_gt}
use Rattle.valuation.specs.declared.atom.Atom.{Atom}
use Rattle.valuation.specs.Orders.{bidder_cmp}

-- no bidder is greater than a later one
abbrev pub NeverFall : List (List (Atom (List ℕ))) → Type 0
NeverFall bidders = AllPairs (λ x y. is_gt (bidder_cmp x y) ≡ false) bidders
