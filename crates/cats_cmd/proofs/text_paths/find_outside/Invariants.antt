-- `find_outside`
use Rattle.cats_cmd.proofs.Common.{◌≡◌, true, take, All}
use Rattle.cats_cmd.specs.Internal.TextNumbers.{plain_places}
use Rattle.cats_cmd.specs.TextPaths.{leads_below, texts_at}
use Rattle.cats_cmd.proofs.text_paths.find_outside.Given as goal

-- the texts so far are below the folder
abbrev pub invariant-loop-number : goal.invariant-loop-number
invariant-loop-number l = All (λ text. leads_below text ≡ true) (take l.number (texts_at (plain_places l.places)))
