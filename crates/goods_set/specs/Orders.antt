-- The order of bundles. It is by size, then lexicographic by their rising lists of goods.
use Rattle.std.proofs.Common.{ℕ, List, length, Ordering, nat_cmp}
use Rattle.std.specs.Ordering.{ordering_then}
use Rattle.std.specs.Cmp.Lexicographic.{slice_cmp}

-- the order of bundles: by size, then lexicographic by goods
abbrev pub bundle_cmp : List ℕ → List ℕ → Ordering
bundle_cmp xs ys = ordering_then (nat_cmp (length xs) (length ys)) (slice_cmp nat_cmp xs ys)
