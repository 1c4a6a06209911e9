-- `alike_files_have_one_unsearched_text`
use Rattle.canon.proofs.TwoFiles.Alike.{unsearched_texts_tell}
use Rattle.canon.proofs.laws.alike_files_have_one_unsearched_text.Goals as goal

pub returns : goal.returns
returns c = unsearched_texts_tell
