-- The winner determination problem as a text in CPLEX's LP format. There is a variable for each bid, which is 1 if the
-- bid wins, and a row for each good and each dummy good that two bids or more have: at most one of them wins.
use Rattle.std.specs.Prelude.{ℕ, ◌+◌, ◌-◌, ◌*◌, ◌≤◌, ◌==◌, nat_lt, if◌then◌else◌, List, [], ◌∷◌, ◌++◌, length}
use Rattle.std.specs.Prelude.{map, sum_by, All, Bool, true, false, codes, decimal}
use Rattle.std.specs.List.{filter, flat_map, list_any, range_with_len}
use Rattle.goods_set.specs.Bundles.{has_good}
use Rattle.bid_file.specs.Files.{PlainFile, goods_of}
use Rattle.cats_text.specs.Layout.{price_text}
use Rattle.analysis.specs.Allocations.{revenue}
use Rattle.analysis.specs.Bids.{bid_at, numbers_of}
use Rattle.analysis.specs.declared.winners.lp.TheConstants.{EXACT_SUMS}

-- a name, and the numbers of bids of which at most one wins
pub record PlainRow : Type 0 where
  pub name : List ℕ
  pub bids : List ℕ

-- the numbers of the bids that have a good, numbered as the file writes it: dummy goods are behind the real ones
abbrev pub bids_with : PlainFile → ℕ → List ℕ
bids_with f good = filter (λ i. has_good (goods_of f.goods (bid_at f i)) good) (numbers_of f)

-- `g` and the number of a real good, or `d` and that of a dummy good among the dummy goods
abbrev pub row_name : ℕ → ℕ → List ℕ
row_name goods good = if nat_lt good goods then codes "g" ++ decimal good else codes "d" ++ decimal (good - goods)

abbrev pub row_of : PlainFile → ℕ → PlainRow
row_of f good = record { name = row_name f.goods good; bids = bids_with f good }

-- whether two bids or more are in the row
abbrev pub is_shared : PlainRow → Bool
is_shared row = nat_lt 1 (length row.bids)

-- the goods, and then the dummy goods, that two bids or more have
abbrev pub lp_rows : PlainFile → List PlainRow
lp_rows f = filter is_shared (map (row_of f) (range_with_len 0 (f.goods + f.dummy)))

-- ---- what the problem says of a choice of winners

-- the value of a bid's variable: 1 if it is a winner, and else 0
abbrev pub value_of : List ℕ → ℕ → ℕ
value_of winners i = if list_any (λ winner. winner == i) winners then 1 else 0

-- each row has one winner at most
abbrev pub AreRowsMet : PlainFile → List ℕ → Type 0
AreRowsMet f winners = All (λ row. sum_by (value_of winners) row.bids ≤ 1) (lp_rows f)

-- the sum of price times variable, which is 1 for a winner, else 0
abbrev pub objective : PlainFile → List ℕ → ℕ
objective f winners = sum_by (λ i. (bid_at f i).price * value_of winners i) (numbers_of f)

-- whether all prices together are below 2^53 millionths; then a solver's numbers are exact (law)
abbrev pub are_sums_exact : PlainFile → Bool
are_sums_exact f = nat_lt (revenue f (numbers_of f)) EXACT_SUMS

-- ---- the text, with one term in each line

-- a comment of the format: what the prices below it are
abbrev pub unit_line : Bool → List ℕ
unit_line true = codes "\\ revenue in millionths\n"
unit_line false = codes "\\ revenue in units, as sums of millionths can pass 2^53\n"

-- a price in millionths if their sums are exact, and else with decimals
abbrev pub amount_text : Bool → ℕ → List ℕ
amount_text true price = decimal price
amount_text false price = price_text price

abbrev pub price_term : Bool → ℕ → ℕ → List ℕ
price_term exact price i = codes " + " ++ amount_text exact price ++ codes " x" ++ decimal i ++ codes "\n"

abbrev pub row_term : ℕ → List ℕ
row_term i = codes " + x" ++ decimal i ++ codes "\n"

abbrev pub row_text : PlainRow → List ℕ
row_text row = codes " " ++ row.name ++ codes ":\n" ++ flat_map row_term row.bids ++ codes " <= 1\n"

abbrev pub binary_line : ℕ → List ℕ
binary_line i = codes " x" ++ decimal i ++ codes "\n"

-- a text if there is no row
abbrev pub if_none : List PlainRow → List ℕ → List ℕ
if_none [] text = text
if_none (row ∷ rows) text = []

-- winner determination in CPLEX's LP format
--
-- Solvers, like glpsol, refuse an objective without a term and a text without a row. If there is no row, which is so if
-- there is no bid, a variable `none` of the price 0 has one: it is no bid, and changes nothing.
abbrev pub lp_text : PlainFile → List ℕ
lp_text f =
    unit_line (are_sums_exact f)
    ++ codes "Maximize\n revenue:\n"
    ++ flat_map (λ i. price_term (are_sums_exact f) (bid_at f i).price i) (numbers_of f)
    ++ if_none (lp_rows f) (codes " + 0 none\n")
    ++ codes "Subject To\n" ++ flat_map row_text (lp_rows f)
    ++ if_none (lp_rows f) (codes " none:\n + none\n <= 1\n")
    ++ codes "Binary\n" ++ flat_map binary_line (numbers_of f)
    ++ if_none (lp_rows f) (codes " none\n") ++ codes "End\n"
