-- `named_number`
use Rattle.command_line.proofs.Common.{◌∙◌, sym, arith}
use Rattle.command_line.proofs.Reading.{number_named}
use Rattle.command_line.proofs.number_lists.named_number.Goals as goal

pub returns-in-Ok : goal.returns-in-Ok
returns-in-Ok c =
    number_named _ c.args.most c.args.text.now c.parse.result c.in-Ok.number (sym c.begins_with_sign.ensures ∙ c.if-begins_with_sign.false)
    c.parse.ensures.value.0 c.in-Ok.is (omega (arith, c.if-number-most.true))
