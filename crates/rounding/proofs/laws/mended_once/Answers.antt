-- `mended_once`
use Rattle.rounding.proofs.MendedTexts.{mended_unmended}
use Rattle.rounding.proofs.laws.mended_once.Goals as goal

pub returns : goal.returns
returns c = mended_unmended
