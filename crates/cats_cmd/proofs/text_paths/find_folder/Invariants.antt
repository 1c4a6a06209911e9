-- `find_folder`
use Rattle.cats_cmd.proofs.PlacingTexts.{NoneShorter}
use Rattle.cats_cmd.proofs.text_paths.find_folder.Given as goal

-- no shorter folder of the text has a number
abbrev pub invariant-loop-end : goal.invariant-loop-end
invariant-loop-end l = NoneShorter l.numbers l.text l.end
