-- Winners of a file and of its canonical file, and kept bids in the place of dropped ones. The reasons of the bids say
-- which bids these are.
use Rattle.std.specs.Prelude.{◌≡◌, ℕ, true, List, [], ◌∷◌, map, All}
use Rattle.std.specs.List.{find, flat_map}
use Rattle.std.specs.Option.{unwrap_or}
use Rattle.std.specs.Ordering.{nat_cmp}
use Rattle.bid_file.specs.Files.{PlainFile}
use Rattle.valuation.specs.Sorting.{sort_by}
use Rattle.analysis.specs.Bids.{numbers_of}
use Rattle.analysis.specs.Reasons.{PlainReason, Keep, Zero, Same, Inside, Packing, is_kept, is_kept_as}
use Rattle.analysis.specs.Reasons.{kept_number, reason_of}

-- each winner has the reason `Keep`
abbrev pub AreKept : PlainFile → List ℕ → Type 0
AreKept f winners = All (λ i. is_kept (reason_of f i) ≡ true) winners

-- the number of the bid with the reason `Keep k`
abbrev pub number_kept_as : PlainFile → ℕ → ℕ
number_kept_as f k = unwrap_or (find (λ i. is_kept_as k (reason_of f i)) (numbers_of f)) 0

-- the bids of a file that these bids of its canonical file are
abbrev pub kept_as : PlainFile → List ℕ → List ℕ
kept_as f winners = sort_by nat_cmp (map (number_kept_as f) winners)

-- the bids of the canonical file that these kept bids are
abbrev pub in_canonical_file : PlainFile → List ℕ → List ℕ
in_canonical_file f winners = sort_by nat_cmp (map (kept_number f) winners)

-- the kept bids that the reason of a best bid names: the bid itself, or those that reach its price
abbrev pub named_by : ℕ → PlainReason → List ℕ
named_by i (Keep k) = i ∷ []
named_by i Zero = []
named_by i (Same j) = []
named_by i (Inside j) = j ∷ []
named_by i (Packing js) = js

-- the same of any bid: the best bid that `Same` names may be dropped too
abbrev pub kept_by : PlainFile → ℕ → PlainReason → List ℕ
kept_by f i (Same j) = named_by j (reason_of f j)
kept_by f i reason = named_by i reason

-- the kept bids in the place of bid i: itself, or those of its reason
abbrev pub in_place_of : PlainFile → ℕ → List ℕ
in_place_of f i = kept_by f i (reason_of f i)

-- the kept bids in the place of the winners
abbrev pub with_kept_bids : PlainFile → List ℕ → List ℕ
with_kept_bids f winners = sort_by nat_cmp (flat_map (in_place_of f) winners)
