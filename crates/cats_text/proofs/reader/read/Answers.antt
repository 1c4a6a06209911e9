-- `read`: the packed file that the text spells, with a vector for each bid.
use Rattle.cats_text.proofs.Common.{rules, err_from_is_err_and}
use Rattle.cats_text.proofs.Feeding.Files.{unpacked_reported}
use Rattle.cats_text.proofs.reader.read.Goals as goal

pub returns-in_err-file : goal.returns-in_err-file
returns-in_err-file c = search (rules, err_from_is_err_and)

pub returns : goal.returns
returns c = unpacked_reported c.args.text.now c.in_ok-file.file c.unpacked.result c.in_ok-file.ensures c.unpacked.ensures
