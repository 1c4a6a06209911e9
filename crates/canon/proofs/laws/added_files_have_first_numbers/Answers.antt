-- `added_files_have_first_numbers`
use Rattle.canon.proofs.Common.{rules}
use Rattle.canon.proofs.TwoFiles.Indexing.{index_of_none, index_of_more, number_of_more, canonical_texts_tell}
use Rattle.canon.proofs.TwoFiles.Alike.{unsearched_texts_tell}
use Rattle.canon.proofs.laws.added_files_have_first_numbers.Goals as goal

pub returns : goal.returns
returns c = search (rules, index_of_none, index_of_more, number_of_more, canonical_texts_tell, unsearched_texts_tell)
