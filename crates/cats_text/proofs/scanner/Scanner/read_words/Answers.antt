-- `Scanner::read_words`
use Rattle.cats_text.proofs.Common.{arith, common_steps, err_from_is_err_and}
use Rattle.cats_text.proofs.Scanning.WholeWords.{rest_then, rest_stops_to}
use Rattle.cats_text.proofs.scanner.Scanner.read_words.Goals as goal

pub loop-word-preserved : goal.loop-word-preserved
loop-word-preserved g c = grind (arith, common_steps, rest_then)

pub returns-in_err-offset-clause-scanned : goal.returns-in_err-offset-clause-scanned
returns-in_err-offset-clause-scanned g c = grind (arith, common_steps, err_from_is_err_and, rest_stops_to)
