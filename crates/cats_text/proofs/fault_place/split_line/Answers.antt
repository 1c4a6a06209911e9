-- `split_line`
use Rattle.cats_text.proofs.Common.{rules, take_rest}
use Rattle.cats_text.proofs.Texts.FirstWords.{IsFound, found_at, first_line}
use Rattle.cats_text.proofs.fault_place.split_line.Goals as goal

pub returns : goal.returns
returns c = search (rules, IsFound, found_at, take_rest, first_line)
