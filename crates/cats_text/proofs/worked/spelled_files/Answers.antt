-- `spelled_files`
use Rattle.cats_text.proofs.Common.{rules, refl, codes}
use Rattle.cats_text.proofs.Spelling.Files.{spells_from_no_fault}
use Rattle.cats_text.proofs.worked.spelled_files.Goals as goal

pub returns-clause-lenient : goal.returns-clause-lenient
returns-clause-lenient c = search (rules, spells_from_no_fault)

pub returns-clause-cats : goal.returns-clause-cats
returns-clause-cats c = spells_from_no_fault (codes "%% a comment\n\ngoods 3\nbids 2\ndummy 1\n\n0\t20\t0\t2\t3\t#\n1\t7\t1\t#\n") refl

pub returns-clause-out_of_order : goal.returns-clause-out_of_order
returns-clause-out_of_order c = spells_from_no_fault (codes "goods 2\nbids 2\ndummy 0\n1 02.250 1 0 #\n0 3 1 #\n") refl

pub returns-clause-least : goal.returns-clause-least
returns-clause-least c = spells_from_no_fault (codes "goods 0\nbids 0\ndummy 0\n") refl
