-- The canonical file with the source file's dummy goods. Bidders that are equal in the canonical file keep
-- the order of their dummy goods.
use Rattle.std.specs.Prelude.{ℕ, List, map, filter, slice_index_or, Option, Some, None}
use Rattle.std.specs.List.{range_with_len}
use Rattle.std.specs.Ordering.{nat_cmp, ordering_then}
use Rattle.std.specs.declared.cmp.Ordering.{Ordering}
use Rattle.bid_file.specs.Files.{PlainBid, PlainFile}
use Rattle.valuation.specs.declared.atom.Atom.{Atom}
use Rattle.valuation.specs.Auctions.{xor_atoms_of}
use Rattle.valuation.specs.Orders.{bidder_cmp}
use Rattle.valuation.specs.Sorting.{sort_by}
use Rattle.valuation.specs.Tables.{xor_table, is_nonzero}
use Rattle.prune.specs.Points.{xor_points}
use Rattle.canon.specs.Canonical.{canonical_file}

-- the bids that the XOR bidder of a dummy good keeps
abbrev pub points_of_dummy : PlainFile → ℕ → List (Atom (List ℕ))
points_of_dummy f d = xor_points f.goods (xor_atoms_of f.bids d)

-- by the bids that their bidders keep, and those of equal bidders by their numbers
abbrev pub dummy_cmp : PlainFile → ℕ → ℕ → Ordering
dummy_cmp f d e = ordering_then (bidder_cmp (points_of_dummy f d) (points_of_dummy f e)) (nat_cmp d e)

-- the dummy goods of f whose bidders are in the canonical file, in its order
abbrev pub kept_dummies : PlainFile → List ℕ
kept_dummies f = sort_by (dummy_cmp f) (filter (λ d. is_nonzero (xor_table (xor_atoms_of f.bids d) f.goods))
    (range_with_len 0 f.dummy))

-- a dummy good of the canonical file as it is in the file
abbrev pub named_dummy : List ℕ → Option ℕ → Option ℕ
named_dummy dummies None = None
named_dummy dummies (Some d) = Some (slice_index_or dummies d 0)

abbrev pub named_bid : List ℕ → PlainBid → PlainBid
named_bid dummies b = record { price = b.price; goods = b.goods; dummy = named_dummy dummies b.dummy }

-- a file with each dummy good d renamed to number d of the list
abbrev pub with_dummies : List ℕ → PlainFile → PlainFile
with_dummies dummies f = record { goods = f.goods; dummy = f.dummy; bids = map (named_bid dummies) f.bids }

-- the bids of the canonical file of f, with the dummy goods of f
abbrev pub kept_bids : PlainFile → List PlainBid
kept_bids f = map (named_bid (kept_dummies f)) (canonical_file f).bids
