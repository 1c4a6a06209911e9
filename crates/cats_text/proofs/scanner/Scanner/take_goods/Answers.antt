-- `Scanner::take_goods`
use Rattle.cats_text.proofs.Common.{arith, common_steps, err_from_is_err_and}
use Rattle.cats_text.proofs.Scanning.WholeWords.{rest_then, rest_stops_to}
use Rattle.cats_text.proofs.scanner.Scanner.take_goods.Goals as goal

pub loop-good-preserved : goal.loop-good-preserved
loop-good-preserved g c = grind (arith, common_steps, rest_then)

pub returns-in_err-offset-clause-scanned : goal.returns-in_err-offset-clause-scanned
returns-in_err-offset-clause-scanned g c = grind (arith, common_steps, err_from_is_err_and, rest_stops_to)
