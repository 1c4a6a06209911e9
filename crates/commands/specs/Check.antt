-- What `cats check` prints: how many goods, bids and dummy goods a file has.
use Rattle.std.specs.Prelude.{ℕ, List, ◌++◌, length, codes, decimal}
use Rattle.bid_file.specs.Files.{PlainFile}
use Rattle.commands.specs.Outcomes.{Outcome, Prints}

-- what `cats check` prints of these numbers
abbrev pub sizes_text : ℕ → ℕ → ℕ → List ℕ
sizes_text goods bids dummy = codes "goods " ++ decimal goods ++ codes " bids " ++ decimal bids ++ codes " dummy "
    ++ decimal dummy ++ codes "\n"

-- what `cats check` prints of a file
abbrev pub check_text : PlainFile → List ℕ
check_text file = sizes_text file.goods (length file.bids) file.dummy

-- the outcome of `cats check`
abbrev pub check_outcome : PlainFile → Outcome
check_outcome file = Prints 0 (check_text file)
