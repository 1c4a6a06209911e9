-- `short_number`
use Rattle.cats_text.proofs.Scanning.FewDigits.{if_eight_read}
use Rattle.cats_text.proofs.leading_token.short_number.Goals as goal

pub returns-clause-number : goal.returns-clause-number
returns-clause-number c = if_eight_read c.args.bytes.now c.few_digits.result c.few_digits.ensures.few c.few_digits.ensures.count c.few_digits.ensures.value
