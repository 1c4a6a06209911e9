-- What `cats explain` prints. It is a table with a row for each bid: the bid, why it is kept or dropped, its number in
-- the canonical file, and the bids that make it superfluous. A cell is empty if there is nothing.
use Rattle.std.specs.Prelude.{ℕ, List, [], ◌∷◌, ◌++◌, codes, decimal}
use Rattle.std.specs.List.{flat_map}
use Rattle.bid_file.specs.Files.{PlainBid, PlainFile}
use Rattle.cats_text.specs.Layout.{price_text}
use Rattle.analysis.specs.Bids.{bid_at, numbers_of}
use Rattle.analysis.specs.Reasons.{PlainReason, Keep, Zero, Same, Inside, Packing, reason_at, reasons_of}
use Rattle.valuation.specs.declared.search.options.SearchOptions.{SearchOptions}
use Rattle.commands.specs.Outputs.{list_cell, number_cell}
use Rattle.commands.specs.Outcomes.{Outcome}
use Rattle.commands.specs.Normalise.{outcome_within, exceeds_at}

-- the names of the columns
abbrev pub explanation_header : List ℕ
explanation_header = codes "bid\tdummy\tprice\tgoods\treason\tkept\tby\n"

-- the dummy good, as a number among the dummy goods, the price and the goods of a bid
abbrev pub bid_cells : PlainBid → List ℕ
bid_cells bid = number_cell bid.dummy ++ codes "\t" ++ price_text bid.price ++ codes "\t" ++ list_cell bid.goods

-- the word of the reason, the number in the canonical file, and the bids that make this one superfluous
abbrev pub reason_cells : PlainReason → List ℕ
reason_cells (Keep k) = codes "keep\t" ++ decimal k ++ codes "\t"
reason_cells Zero = codes "zero\t\t"
reason_cells (Same j) = codes "same\t\t" ++ list_cell (j ∷ [])
reason_cells (Inside j) = codes "inside\t\t" ++ list_cell (j ∷ [])
reason_cells (Packing js) = codes "packing\t\t" ++ list_cell js

-- a bid's row in the table of `cats explain`
abbrev pub explanation_row : ℕ → PlainBid → PlainReason → List ℕ
explanation_row number bid reason = decimal number ++ codes "\t" ++ bid_cells bid ++ codes "\t" ++ reason_cells reason
    ++ codes "\n"

-- the table of `cats explain`, by the bids' reasons
abbrev pub explanation_text : PlainFile → List PlainReason → List ℕ
explanation_text file reasons = explanation_header
    ++ flat_map (λ i. explanation_row i (bid_at file i) (reason_at reasons i)) (numbers_of file)

-- the outcome of `cats explain`, which refuses what `cats normalise` refuses
abbrev pub explain_outcome : SearchOptions → PlainFile → Outcome
explain_outcome options file =
    outcome_within options (exceeds_at options file) (explanation_text file (reasons_of file)) file
