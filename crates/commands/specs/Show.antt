-- What `cats show` prints: a file in its one layout.
use Rattle.bid_file.specs.Files.{PlainFile}
use Rattle.cats_text.specs.Layout.{layout}
use Rattle.commands.specs.Outcomes.{Outcome, Prints}

-- the outcome of `cats show`: the layout
abbrev pub show_outcome : PlainFile → Outcome
show_outcome file = Prints 0 (layout file)
