-- `canonical_auctions_have_canonical_files`
use Rattle.canon.proofs.Common.{refl, file_from}
use Rattle.canon.proofs.TwoFiles.Answering.{canonical_file_is, canonical_auction_is}
use Rattle.canon.proofs.laws.canonical_auctions_have_canonical_files.Goals as goal

pub returns : goal.returns
returns c a = (canonical_file_is a (file_from a) refl, canonical_auction_is a)
