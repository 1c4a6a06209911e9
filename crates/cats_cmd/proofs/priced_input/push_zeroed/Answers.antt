-- `push_zeroed`
use Rattle.cats_cmd.proofs.Common.{codes, decimal, arith, ne_eqb, eq-eqb}
use Rattle.cats_cmd.proofs.Gathering.{gathers_nothing, gathers_three}
use Rattle.cats_cmd.proofs.priced_input.push_zeroed.Goals as goal

pub returns-then-zeroed-gt0 : goal.returns-then-zeroed-gt0
returns-then-zeroed-gt0 g c =
    let some = c.if-zeroed-gt0.true in
    rw (ne_eqb c.args.zeroed 0 (λ none. omega (arith, some, none)))
    (gathers_three g.E.Write.contents (codes ", ") (decimal c.args.zeroed) (codes " to 0") _ _ _ _ _ _ _ _ c.push.ensures c.push_number.ensures c.push-then-zeroed-gt0.ensures)

pub returns-else-zeroed-gt0 : goal.returns-else-zeroed-gt0
returns-else-zeroed-gt0 g c =
    let none = c.if-zeroed-gt0.false in
    rw (eq-eqb c.args.zeroed 0 (omega (arith, none))) (gathers_nothing g.E.Write.contents _ _)
