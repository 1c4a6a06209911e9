-- `push_bids`
use Rattle.canon.proofs.Common.{rules, length-atoms_of}
use Rattle.canon.proofs.CanonicalFiles.Filing.{one_more_bid, all_bids}
use Rattle.canon.proofs.normal.file.push_bids.Goals as goal

pub loop-atom-preserved : goal.loop-atom-preserved
loop-atom-preserved g c = search (rules, one_more_bid)

pub returns : goal.returns
returns g c = search (rules, all_bids, length-atoms_of)
