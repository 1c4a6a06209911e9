-- `printed_reasons_are_true`
use Rattle.commands.proofs.Common.{arith, reasons_of, reasons_explain}
use Rattle.commands.proofs.laws.printed_reasons_are_true.Goals as goal

pub returns : goal.returns
returns c = λ options file text is e. (reasons_of file, reasons_explain file is, grind arith)
