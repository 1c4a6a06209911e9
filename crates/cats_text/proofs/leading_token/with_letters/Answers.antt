-- `with_letters`
use Rattle.cats_text.proofs.Common.{rules}
use Rattle.cats_text.proofs.Scanning.ManyBytes.{digits_letters, others_stay}
use Rattle.cats_text.proofs.leading_token.with_letters.Goals as goal

pub returns-in-Number-clause-letters : goal.returns-in-Number-clause-letters
returns-in-Number-clause-letters c = search (rules, digits_letters)

pub returns-in-Decimal-clause-letters : goal.returns-in-Decimal-clause-letters
returns-in-Decimal-clause-letters c = search (rules, digits_letters)

pub returns-in-Other-clause-word : goal.returns-in-Other-clause-word
returns-in-Other-clause-word c = search (rules, others_stay)
