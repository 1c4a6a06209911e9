-- What `cats compare` prints. It is where two auctions first differ, and both sides of it.
use Rattle.std.specs.Prelude.{ℕ, List, ◌∷◌, ◌++◌, codes, decimal}
use Rattle.std.specs.List.{flat_map}
use Rattle.cats_text.specs.Layout.{price_text}
use Rattle.valuation.specs.declared.atom.Atom.{Atom}
use Rattle.canon.specs.declared.verdict.Side.{Side}
use Rattle.canon.specs.declared.verdict.Side.TheVariants.{Exactly, Below}
use Rattle.canon.specs.Difference.{Difference, NoDifference, InGoods, InOr, InXor, first_difference}
use Rattle.bid_file.specs.Files.{PlainFile}
use Rattle.valuation.specs.Auctions.{auction_from}
use Rattle.commands.specs.Outputs.{bundle_text}
use Rattle.commands.specs.Outcomes.{Outcome, Prints}

abbrev pub side_text : Side → List ℕ
side_text (Exactly price) = price_text price
side_text (Below price) = codes "below " ++ price_text price

-- a bundle with its price
abbrev pub atom_text : Atom (List ℕ) → List ℕ
atom_text a = bundle_text a.bundle ++ codes ":" ++ price_text a.price

-- a bidder's atoms, each after a space
abbrev pub bidder_text : List (Atom (List ℕ)) → List ℕ
bidder_text bidder = flat_map (λ a. 32 ∷ atom_text a) bidder

-- where two auctions first differ, and what is reported of each
abbrev pub difference_lines : List ℕ → List ℕ → List ℕ → List ℕ
difference_lines place left right = codes "different\n" ++ place ++ codes "\nleft " ++ left ++ codes "\nright " ++ right
    ++ codes "\n"

-- what `cats compare` prints of a difference
abbrev pub difference_text : Difference → List ℕ
difference_text NoDifference = codes "same\n"
difference_text (InGoods left right) = difference_lines (codes "goods") (decimal left) (decimal right)
difference_text (InOr bundle left right) = difference_lines (codes "or " ++ bundle_text bundle) (side_text left)
    (side_text right)
difference_text (InXor bidder left right) = difference_lines (codes "xor" ++ bidder_text bidder) (decimal left)
    (decimal right)

-- 0 if there is no difference, else 1
abbrev pub status_of_difference : Difference → ℕ
status_of_difference NoDifference = 0
status_of_difference _ = 1

abbrev pub outcome_of_difference : Difference → Outcome
outcome_of_difference difference = Prints (status_of_difference difference) (difference_text difference)

-- the outcome of `cats compare`
abbrev pub compare_outcome : PlainFile → PlainFile → Outcome
compare_outcome left right = outcome_of_difference (first_difference (auction_from left) (auction_from right))
