-- `dummies_of`
use Rattle.canon.proofs.Common.{rules, arith, common_steps, map-map}
use Rattle.canon.proofs.CanonicalFiles.Numbering.{one_more_number, all_numbers}
use Rattle.canon.proofs.normal.auction.dummies_of.Goals as goal

pub loop-bidder-preserved : goal.loop-bidder-preserved
loop-bidder-preserved g c = grind (arith, common_steps, one_more_number)

pub returns : goal.returns
returns g c = search (rules, all_numbers, map-map)
