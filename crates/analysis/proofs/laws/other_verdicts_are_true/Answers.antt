-- `other_verdicts_are_true`
use Rattle.analysis.proofs.Allocating.TrueVerdicts.{if_bidder, if_good, if_missing, is_least}
use Rattle.analysis.proofs.laws.other_verdicts_are_true.Goals as goal

pub returns : goal.returns
returns c = record {
  good = λ f plain named i j good e. let h = if_good f named i j good e in is_least f named plain i j good h.clash h.shared;
  bidder = λ f named i j dummy e. (if_bidder f named i j dummy e).bidders;
  first_of_good = λ f named i j good e. (if_good f named i j good e).first;
  first_of_bidder = λ f named i j dummy e. (if_bidder f named i j dummy e).first;
  missing = if_missing;
}
