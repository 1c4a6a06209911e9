-- `streams_read`
use Rattle.cats_text.proofs.Common.{rules, refl, codes, spelled_file}
use Rattle.cats_text.proofs.Spelling.Files.{spells_from_no_fault}
use Rattle.cats_text.proofs.worked.streams_read.Goals as goal

pub returns-clause-file : goal.returns-clause-file
returns-clause-file c = search (rules, spells_from_no_fault)

pub returns-clause-sizes : goal.returns-clause-sizes
returns-clause-sizes c = record {
  file = spelled_file (codes "goods 0\nbids 0\ndummy 0\n");
  reads = search (rules, spells_from_no_fault);
  sizes = record { goods = refl; bids = refl; dummy = refl };
}
