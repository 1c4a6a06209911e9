-- `push_range`
use Rattle.command_line.proofs.Common.{arith, refl, rules}
use Rattle.command_line.proofs.NumbersSoFar.{pushed}
use Rattle.command_line.proofs.number_lists.push_range.Goals as goal

pub loop-number-preserved : goal.loop-number-preserved
loop-number-preserved c = (
  pushed c.args.numbers.now.items c.loop-number.numbers.items _ c.args.first c.loop-number.number _ (search rules) refl c.in_ok-push_number.ensures.numbers
      c.loop-number.invariant.0,
  c.in_ok-push_number.ensures.marks,
)

pub returns-in_ok-push_number-clause-numbers : goal.returns-in_ok-push_number-clause-numbers
returns-in_ok-push_number-clause-numbers c =
    pushed c.args.numbers.now.items c.loop-number.numbers.items _ c.args.first c.loop-number.number c.args.last (search rules)
    (omega (arith, c.requires, c.loop-number.auto.number, c.loop-number.auto.number-end, c.loop-number-test.true)) c.in_ok-push_number.ensures.numbers
    c.loop-number.invariant.0
