-- `explain`: the reasons are those of the file, and these are true (proofs/TrueReasons).
use Rattle.analysis.proofs.Common.{rules}
use Rattle.analysis.proofs.Explaining.TrueReasons.{reasons_explain}
use Rattle.analysis.proofs.reasons.explanation.explain.Goals as goal

pub returns-clause-reasons : goal.returns-clause-reasons
returns-clause-reasons c = search (rules, reasons_explain, c.in_ok-all_reasons.ensures, c.requires)
