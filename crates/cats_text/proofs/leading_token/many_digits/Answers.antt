-- `many_digits`
use Rattle.cats_text.proofs.Common.{rules}
use Rattle.cats_text.proofs.Scanning.FewDigits.{few_read}
use Rattle.cats_text.proofs.leading_token.many_digits.Goals as goal

pub returns-clause-number : goal.returns-clause-number
returns-clause-number c = search (rules, few_read)
