-- `finish_header`
use Rattle.cats_text.proofs.Common.{rules}
use Rattle.cats_text.proofs.Feeding.Files.{header_reported}
use Rattle.cats_text.proofs.push_reader.finish_header.Goals as goal

pub returns : goal.returns
returns c = search (rules, header_reported)
