-- `without_keys`: the bidders so far are those that are done: the next one adds itself.
use Rattle.canon.proofs.Common.{rules, arith, common_steps, nil_from_length, map-map}
use Rattle.canon.proofs.CanonicalFiles.Bidders.{bare_pushed, bare_done}
use Rattle.canon.proofs.normal.auction.without_keys.Goals as goal

pub loop-bidder-preserved : goal.loop-bidder-preserved
loop-bidder-preserved g c = grind (arith, common_steps, bare_pushed)

pub returns : goal.returns
returns g c = search (rules, nil_from_length, bare_done, map-map)
