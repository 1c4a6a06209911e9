-- `Reader::finish`: the packed file that the bytes spell, with a vector for each bid.
use Rattle.cats_text.proofs.Common.{rules, err_from_is_err_and}
use Rattle.cats_text.proofs.Feeding.Files.{unpacked_as, fault_as}
use Rattle.cats_text.proofs.reader.Reader.finish.Goals as goal

pub returns-in_err-file : goal.returns-in_err-file
returns-in_err-file c = search (rules, err_from_is_err_and, fault_as)

pub returns : goal.returns
returns c = rw (← c.self.view_is) (unpacked_as c.self.inside.push_reader c.in_ok-file.file c.unpacked.result c.unpacked.ensures c.in_ok-file.ensures)
