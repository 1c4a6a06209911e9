-- `file_reads_back`
use Rattle.canon.proofs.CanonicalFiles.Files.{auction_from-file_from, IsPlainFile-file_from}
use Rattle.canon.proofs.laws.file_reads_back.Goals as goal

pub returns : goal.returns
returns c = record { facts = IsPlainFile-file_from; auction = auction_from-file_from }
