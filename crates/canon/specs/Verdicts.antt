-- What callers see of a verdict.
use Rattle.std.specs.Prelude.{ℕ, map, List, Vec}
use Rattle.std.specs.Global.{Global}
use Rattle.valuation.specs.declared.atom.Atom.{Atom}
use Rattle.canon.specs.declared.verdict.Verdict.{Verdict}
use Rattle.canon.specs.declared.verdict.Verdict.TheVariants.{Same, Goods, Or, Xor}
use Rattle.canon.specs.Difference.{Difference, NoDifference, InGoods, InOr, InXor}

-- bids by their goods and prices
abbrev pub printed_atoms : List (Vec ℕ Global × ℕ) → List (Atom (List ℕ))
printed_atoms bids = map (λ b. record { bundle = b.0.items; price = b.1 }) bids

-- a verdict of the code as a value
abbrev pub plain_verdict : Verdict → Difference
plain_verdict Same = NoDifference
plain_verdict (Goods left right) = InGoods left right
plain_verdict (Or bundle left right) = InOr bundle.items left right
plain_verdict (Xor bidder left right) = InXor (printed_atoms bidder.items) left right

-- a difference in a bundle or in a bidder, whose verdict takes memory
abbrev pub NamesGoods : Difference → Type 0
NamesGoods NoDifference = ⊥
NamesGoods (InGoods left right) = ⊥
NamesGoods (InOr bundle left right) = Unit {0}
NamesGoods (InXor bidder left right) = Unit {0}
