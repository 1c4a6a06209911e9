-- What `cats lp` prints: a file's winner determination problem in the LP format.
use Rattle.bid_file.specs.Files.{PlainFile}
use Rattle.analysis.specs.LpTexts.{lp_text}
use Rattle.commands.specs.Outcomes.{Outcome, Prints}

-- of `cats lp`
abbrev pub lp_outcome : PlainFile → Outcome
lp_outcome file = Prints 0 (lp_text file)
