-- `added_texts`
use Rattle.canon.proofs.Common.{rules}
use Rattle.canon.proofs.TwoFiles.Indexing.{index_of_none, bytes_eq_sym}
use Rattle.canon.proofs.worked.added_texts.Goals as goal

pub returns : goal.returns
returns c = search (rules, bytes_eq_sym, index_of_none)
