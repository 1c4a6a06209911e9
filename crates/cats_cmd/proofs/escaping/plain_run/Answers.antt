-- `plain_run`
use Rattle.cats_cmd.proofs.Common.{rules, ◌≡◌, ◌==◌, ◌≤◌, ◌+◌, ℕ, false, length, drop, arith, sym, ap, ◌∙◌, length-drop, ne_eqb, plain_length}
use Rattle.cats_cmd.proofs.Escaped.{behind_run, run_more, run_within}
use Rattle.cats_cmd.proofs.escaping.plain_run.Goals as goal

pub returns-then-plain-eq0-clause-stops : goal.returns-then-plain-eq0-clause-stops
returns-then-plain-eq0-clause-stops c =
    let is = c.plain_length-plain.ensures ∙ ap plain_length (behind_run c.args.bytes.now c.loop-run.run c.loop-run.invariant.0) in
    λ none. ap (λ (n : ℕ). plain_length (drop n c.args.bytes.now)) (sym none) ∙ sym is ∙ c.if-plain-eq0.true

pub overflow_add-run : goal.overflow_add-run
overflow_add-run c =
    let bytes = c.args.bytes.now in
    let run = c.loop-run.run in
    let is = c.plain_length-plain.ensures ∙ ap plain_length (behind_run bytes run c.loop-run.invariant.0) in
    let within : run + c.plain_length-plain.result ≤ length bytes = omega (arith, is, run_within bytes run c.loop-run.invariant.0) in
    search (rules, arith, within)

pub loop-run-preserved : goal.loop-run-preserved
loop-run-preserved c =
    let bytes = c.args.bytes.now in
    let run = c.loop-run.run in
    let is = c.plain_length-plain.ensures ∙ ap plain_length (behind_run bytes run c.loop-run.invariant.0) in
    let some : (plain_length (drop run bytes) == 0) ≡ false =
    ne_eqb (plain_length (drop run bytes)) 0 (λ e. c.if-plain-eq0.false (is ∙ e)) in
    rw is (
      run_within bytes run c.loop-run.invariant.0,
      run_more bytes run c.loop-run.invariant.1 (omega (arith, length-drop run bytes, c.loop-run-test.true)) some,
    )
