-- `number_texts`
use Rattle.cats_cmd.proofs.Common.{take}
use Rattle.cats_cmd.specs.Internal.TextNumbers.{NumbersTexts, plain_places}
use Rattle.cats_cmd.specs.TextPaths.{texts_at}
use Rattle.cats_cmd.proofs.text_paths.number_texts.Given as goal

-- the texts so far have their numbers
abbrev pub invariant-loop-number : goal.invariant-loop-number
invariant-loop-number l = NumbersTexts (take l.number (texts_at (plain_places l.places))) l.numbers
