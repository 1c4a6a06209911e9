-- `bid_files_have_no_mends`
use Rattle.rounding.proofs.Layouts.{file_without_mends}
use Rattle.rounding.proofs.laws.bid_files_have_no_mends.Goals as goal

pub returns : goal.returns
returns c = file_without_mends
