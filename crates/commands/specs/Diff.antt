-- What `cats diff` prints. It is a table with a row for each difference: a bundle on which the bids that one bidder
-- keeps differ, left before right. A cell is empty if there is nothing.
use Rattle.std.specs.Prelude.{ℕ, List, [], ◌++◌, Option, Some, None, codes, decimal, if◌then◌else◌}
use Rattle.std.specs.List.{flat_map}
use Rattle.bid_file.specs.Files.{PlainFile}
use Rattle.canon.specs.Renaming.{kept_dummies, named_dummy}
use Rattle.analysis.specs.BidderChanges.{PlainBidderChange}
use Rattle.analysis.specs.Differences.{PlainDifferences, is_none_at_all}
use Rattle.canon.specs.PriceChanges.{PlainChange}
use Rattle.analysis.specs.Bids.{best_number}
use Rattle.commands.specs.Outputs.{list_cell, number_cell, price_cell}
use Rattle.commands.specs.Outcomes.{Outcome, Prints}

-- the columns' names in the table of `cats diff`
abbrev pub diff_header : List ℕ
diff_header = codes "kind\tgoods\tleft\tright\tleft_dummy\tright_dummy\tleft_bid\tright_bid\n"

-- two numbers of goods
abbrev pub goods_row : ℕ → ℕ → List ℕ
goods_row left right = codes "goods\t\t" ++ decimal left ++ codes "\t" ++ decimal right ++ codes "\t\t\t\t\n"

-- the numbers of goods, if they differ
abbrev pub goods_rows : Option (ℕ × ℕ) → List ℕ
goods_rows None = []
goods_rows (Some numbers) = goods_row numbers.0 numbers.1

-- the number of the bid in the file, the bidder's best on the goods, if it keeps one there
abbrev pub bid_number : PlainFile → Option ℕ → List ℕ → Option ℕ → Option ℕ
bid_number f dummy goods None = None
bid_number f dummy goods (Some price) = best_number f dummy goods

-- a kind of bidder, a bundle, and the price on each side
abbrev pub price_cells : List ℕ → PlainChange → List ℕ
price_cells kind c = kind ++ codes "\t" ++ list_cell c.bundle ++ codes "\t" ++ price_cell c.left ++ codes "\t"
    ++ price_cell c.right

-- a number of each side
abbrev pub number_cells : Option ℕ → Option ℕ → List ℕ
number_cells left right = codes "\t" ++ number_cell left ++ codes "\t" ++ number_cell right

-- the prices of a bundle, the dummy goods of the bidder in both files, and the numbers of its bids
abbrev pub change_row : List ℕ → PlainFile → PlainFile → Option ℕ → Option ℕ → PlainChange → List ℕ
change_row kind f g left right c = price_cells kind c ++ number_cells left right
    ++ number_cells (bid_number f left c.bundle c.left) (bid_number g right c.bundle c.right) ++ codes "\n"

-- a row for each bid in which an XOR bidder differs from that beside it, or from none
abbrev pub bidder_rows : PlainFile → PlainFile → PlainBidderChange → List ℕ
bidder_rows f g c = flat_map (change_row (codes "xor") f g (named_dummy (kept_dummies f) c.left)
    (named_dummy (kept_dummies g) c.right)) c.bids

-- the table of `cats diff`: numbers of goods, then OR bundles, then XOR bidders
abbrev pub diff_text : PlainFile → PlainFile → PlainDifferences → List ℕ
diff_text f g d = diff_header ++ goods_rows d.goods ++ flat_map (change_row (codes "or") f g None None) d.bundles
    ++ flat_map (bidder_rows f g) d.bidders

-- 0 if there is no difference, else 1
abbrev pub status_of_differences : PlainDifferences → ℕ
status_of_differences differences = if is_none_at_all differences then 0 else 1

-- the outcome of `cats diff` on two files with these differences
abbrev pub diff_outcome : PlainFile × PlainFile × PlainDifferences → Outcome
diff_outcome compared = Prints (status_of_differences compared.2) (diff_text compared.0 compared.1 compared.2)
