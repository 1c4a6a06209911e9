-- `find_below`
use Rattle.cats_cmd.proofs.PlacingTexts.{NoneBelow}
use Rattle.cats_cmd.specs.Internal.TextNumbers.{plain_places}
use Rattle.cats_cmd.specs.TextPaths.{texts_at}
use Rattle.cats_cmd.proofs.text_paths.find_below.Given as goal

-- none of the texts so far is below another one
abbrev pub invariant-loop-number : goal.invariant-loop-number
invariant-loop-number l = NoneBelow (texts_at (plain_places l.places)) l.numbers l.number
