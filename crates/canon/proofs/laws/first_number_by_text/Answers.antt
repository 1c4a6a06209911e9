-- `first_number_by_text`
use Rattle.canon.proofs.TwoFiles.Indexing.{first_number_is}
use Rattle.canon.proofs.laws.first_number_by_text.Goals as goal

pub returns : goal.returns
returns c files given number each facts e = first_number_is files given number each facts e
