-- `find_folder`
use Rattle.cats_cmd.proofs.Common.{arith, sym}
use Rattle.cats_cmd.proofs.PlacingTexts.{folder_found, none_shorter, shorter_next}
use Rattle.cats_cmd.proofs.text_paths.find_folder.Goals as goal
use Rattle.cats_cmd.proofs.text_paths.find_folder.Goals.{then-byte-eq47+in_default, else-byte-eq47}

pub returns-in-Some : goal.returns-in-Some
returns-in-Some c =
    folder_found c.args.numbers.now c.args.text.now c.loop-end.end 0 c.in-Some.first.now c.loop-end-test.true
    c.if-byte-eq47.true (sym c.in-Some.ensures.value)

pub loop-end-preserved : goal.loop-end-preserved
loop-end-preserved c = elim c.if-byte-eq47.branch [
  | then-byte-eq47+in_default w ↦
      shorter_next c.args.numbers.now c.args.text.now c.loop-end.end 0 (λ slash. sym w.in_default.ensures.value) c.loop-end.invariant
  | else-byte-eq47 w ↦
      shorter_next c.args.numbers.now c.args.text.now c.loop-end.end 0
      (λ slash. absurd (w.if-byte-eq47.false slash)) c.loop-end.invariant
]

pub returns : goal.returns
returns c = none_shorter c.args.numbers.now c.args.text.now c.loop-end.end (omega (arith, c.loop-end-test.false)) c.loop-end.invariant
