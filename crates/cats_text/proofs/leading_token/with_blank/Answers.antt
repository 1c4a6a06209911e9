-- `with_blank`
use Rattle.cats_text.proofs.Common.{◌<◌, ◌≡◌, length, get_or, true, rules, arith, common_steps, is_blank}
use Rattle.cats_text.proofs.Scanning.LeadingTokens.{number_kept, token_before_blank}
use Rattle.cats_text.proofs.leading_token.with_blank.Goals as goal

pub returns-in-32 : goal.returns-in-32
returns-in-32 c =
    let within : c.args.digits < length c.args.bytes.now = first_of (search rules, grind (arith, common_steps)) in
    let blank : is_blank (get_or c.args.bytes.now c.args.digits 0) ≡ true = first_of (search rules, grind (arith, common_steps)) in
    let number = c.requires.number in
    token_before_blank _ _ _ (number_kept c.args.bytes.now c.args.digits c.args.value (omega (arith, c.if-digits-eq0.false)) c.requires.bound
    number.digits number.value) within blank
