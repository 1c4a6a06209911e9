-- `split_bids`
use Rattle.canon.proofs.Common.{rules, prefix_len-le-length}
use Rattle.canon.proofs.TwoFiles.Comparisons.{or_bids_of, xor_bids_of}
use Rattle.canon.proofs.comparing.comparison.split_bids.Goals as goal

pub up_to-requires : goal.up_to-requires
up_to-requires g c = rw c.count_leading-count.ensures (prefix_len-le-length _ c.all-bids.result)

pub returns-clause-or_bids : goal.returns-clause-or_bids
returns-clause-or_bids g c = rw (c.up_to.ensures, c.count_leading-count.ensures, c.all-bids.ensures) (search (rules, or_bids_of))

pub returns-clause-xor_bids : goal.returns-clause-xor_bids
returns-clause-xor_bids g c = rw (c.from.ensures, c.count_leading-count.ensures, c.all-bids.ensures) (search (rules, xor_bids_of))
