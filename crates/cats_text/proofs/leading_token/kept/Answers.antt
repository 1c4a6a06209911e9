-- `kept`
use Rattle.cats_text.proofs.Common.{◌≡◌, ◌+◌, ◌<◌, ◌≤◌, ℕ, List, true, false, length, take, fold, get_or, subst, rules, arith, common_steps, word_with}
use Rattle.cats_text.proofs.Common.{digits_alone}
use Rattle.cats_text.specs.declared.word.Word.TheVariants.{Decimal}
use Rattle.cats_text.proofs.Scanning.LeadingTokens.{number_kept, decimal_kept}
use Rattle.cats_text.proofs.Scanning.ManyBytes.{rest_is}
use Rattle.cats_text.proofs.leading_token.kept.Goals as goal

pub returns-in-46 : goal.returns-in-46
returns-in-46 c =
    let number = c.requires.number in
    let places = c.with_places-places.ensures in
    let bytes = c.args.bytes.now in
    let some : 0 < c.args.digits = omega (arith, c.if-digits-eq0-2.false) in
    let within : c.args.digits < length c.args.bytes.now = first_of (search rules, grind (arith, common_steps)) in
    let point : get_or c.args.bytes.now c.args.digits 0 ≡ 46 = first_of (search rules, grind (arith, common_steps)) in
    let rest = rest_is c.args.bytes.now (c.args.digits + 1) in
    decimal_kept bytes c.args.digits c.args.value c.with_places-places.result.0 c.with_places-places.result.1 some within point
    number.digits number.value
    (subst (λ (ds : List ℕ). c.with_places-places.result.1 ≤ length ds) rest places.bound)
    (subst (λ (ds : List ℕ). digits_alone (take c.with_places-places.result.1 ds) ≡ true) rest places.digits)
    (subst (λ (ds : List ℕ). Decimal c.with_places-places.result.0
    ≡ fold word_with (Decimal (record { whole = c.args.value; millionths = 0; decimals = 0; fine = false }))
    (take c.with_places-places.result.1 ds)) rest places.value)

pub returns-in_default-2 : goal.returns-in_default-2
returns-in_default-2 c = search (rules, number_kept)
