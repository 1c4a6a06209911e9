-- `normal_auction_file`
use Rattle.canon.proofs.TwoFiles.Answering.{canonical_file_is}
use Rattle.canon.proofs.normal.normal_auction_file.Goals as goal

pub returns-clause-canonical : goal.returns-clause-canonical
returns-clause-canonical g c = canonical_file_is _ _ c.in_ok-file.ensures c.in_ok-auction.ensures.fixed
