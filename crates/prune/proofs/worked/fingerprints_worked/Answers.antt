-- `fingerprints_worked`: good 5 marks bit 5, which is 32.
use Rattle.prune.proofs.Common.{rules, [], refl, arith, both_ways, has_cases}
use Rattle.prune.proofs.Marks.{no_marks, one_more}
use Rattle.prune.proofs.worked.fingerprints_worked.Goals as goal

pub returns-clause-no_goods : goal.returns-clause-no_goods
returns-clause-no_goods c = no_marks

pub returns-clause-one_good : goal.returns-clause-one_good
returns-clause-one_good c = one_more 0 5 [] no_marks

pub returns-clause-one_lacks : goal.returns-clause-one_lacks
returns-clause-one_lacks c h = absurd (omega (arith, h.each 65 refl))

pub returns-clause-one_too_many : goal.returns-clause-one_too_many
returns-clause-one_too_many c h =
    let found = h.only 0 refl in
    search (rules, both_ways, has_cases)
