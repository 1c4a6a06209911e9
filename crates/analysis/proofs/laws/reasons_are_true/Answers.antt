-- `reasons_are_true`
use Rattle.analysis.proofs.Explaining.TrueReasons.{reasons_explain}
use Rattle.analysis.proofs.laws.reasons_are_true.Goals as goal

pub returns : goal.returns
returns c = reasons_explain
