-- `texts_read`
use Rattle.cats_text.proofs.Common.{refl, codes}
use Rattle.cats_text.proofs.Spelling.Files.{spells_from_no_fault}
use Rattle.cats_text.proofs.worked.texts_read.Goals as goal

pub returns-clause-file : goal.returns-clause-file
returns-clause-file c = spells_from_no_fault (codes "goods 0\nbids 0\ndummy 0\n") refl
