-- `listed_paths_are_read_back`
use Rattle.cats_cmd.proofs.Common.{◌≡◌, ◌==◌, false, All}
use Rattle.cats_cmd.proofs.ListingPaths.{parts_back}
use Rattle.cats_cmd.proofs.PrintableTexts.{lacks, lacks_from, list_all-from_All}
use Rattle.cats_cmd.proofs.laws.listed_paths_are_read_back.Goals as goal

pub returns : goal.returns
returns c = λ paths plain. parts_back 0 paths (list_all-from_All (λ path. All (λ b. (b == 0) ≡ false) path) (lacks 0) (lacks_from 0) paths plain)
