-- `named_bids_are_the_named`
use Rattle.analysis.proofs.Allocating.TrueVerdicts.{are_numbers, same_members}
use Rattle.analysis.proofs.laws.named_bids_are_the_named.Goals as goal

pub returns : goal.returns
returns c = record { numbers = are_numbers; members = same_members }
