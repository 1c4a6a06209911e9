-- `packings_are_counted`
use Rattle.valuation.proofs.Common.{count_packings-packings}
use Rattle.valuation.proofs.laws.packings_are_counted.Goals as goal

pub returns : goal.returns
returns c = count_packings-packings
