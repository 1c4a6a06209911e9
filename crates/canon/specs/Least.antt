-- The canonical file is the smallest of its auction.
use Rattle.std.specs.Prelude.{◌≡◌, ℕ, ◌<◌, ◌≤◌, List, length, map, All, Contains}
use Rattle.bid_file.specs.Files.{PlainFile, IsPlainFile}
use Rattle.valuation.specs.declared.atom.Atom.{Atom}
use Rattle.valuation.specs.Auctions.{auction_from}
use Rattle.valuation.specs.Orders.{bidder_cmp}
use Rattle.valuation.specs.Sorting.{count_of}
use Rattle.prune.specs.Points.{xor_points}
use Rattle.canon.specs.Sameness.{AreSameFiles}

-- the other file has each OR bid of the file, and for each XOR bidder of the file one that holds all of its bids
pub record IsHeldBy (file other : PlainFile) : Type 0 where
  pub or_bids : All (Contains (auction_from other).or_atoms) (auction_from file).or_atoms
  pub bidders : (points : List (Atom (List ℕ))) → 0 < length points
      → count_of bidder_cmp points (map (xor_points other.goods) (auction_from other).xor_bidders)
      ≡ count_of bidder_cmp points (auction_from file).xor_bidders
  pub bids : All (λ bidder. All (Contains bidder) (xor_points other.goods bidder)) (auction_from other).xor_bidders
  -- so it has as many bids, bids without a dummy good, and dummy goods, or more
  pub no_more_bids : length file.bids ≤ length other.bids
  pub no_more_or_bids : length (auction_from file).or_atoms ≤ length (auction_from other).or_atoms
  pub no_more_dummies : file.dummy ≤ other.dummy

-- each file of the auction of `given` has all OR bids of `file`, and XOR bidders with all bids of its XOR bidders
abbrev pub IsLeastFor : PlainFile → PlainFile → Type 0
IsLeastFor given file = (other : PlainFile) → IsPlainFile other → AreSameFiles given other → IsHeldBy file other
