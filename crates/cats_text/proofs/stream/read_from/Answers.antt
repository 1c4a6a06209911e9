-- `read_from`: the packed file that the stream spells, with a vector for each bid.
use Rattle.cats_text.proofs.Common.{rules, err_from_is_err_and}
use Rattle.cats_text.proofs.Feeding.Files.{unpacked_reported}
use Rattle.cats_text.proofs.Feeding.Streams.{finished_reported}
use Rattle.cats_text.proofs.stream.read_from.Goals as goal

pub returns-in_err-file : goal.returns-in_err-file
returns-in_err-file g c = search (rules, err_from_is_err_and)

pub returns : goal.returns
returns g c = let came = c.in_ok-file.ensures in search (rules, finished_reported, unpacked_reported)
