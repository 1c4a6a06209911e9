-- `Scanner::take_blanks`
use Rattle.cats_text.proofs.Common.{◌∙◌, sym, arith, state, err_from_is_err_and}
use Rattle.cats_text.proofs.Scanning.Rests.{scan_byte_at}
use Rattle.cats_text.proofs.Scanning.WholeWords.{byte_stops, ends_no_return}
use Rattle.cats_text.proofs.scanner.Scanner.take_blanks.Goals as goal

pub loop-offset-preserved : goal.loop-offset-preserved
loop-offset-preserved g c = record {
  scanned = scan_byte_at _ _ _ _ _ c.args.bytes.now c.loop-offset.offset c.loop-offset-test.true
      (ends_no_return _ (sym c.ends_word.ensures ∙ c.if-ends_word.true)) c.loop-offset.invariant.scanned c.in_ok-take_byte.ensures.steps
      c.take_byte.ensures.waiting;
  within = omega (arith, c.loop-offset-test.true);
  line = omega (arith, c.loop-offset.invariant.line, c.take_byte.ensures.line);
  waits = c.take_byte.ensures.waiting ∙ c.loop-offset.invariant.waits;
}

pub returns-in_err-take_byte-clause-scanned : goal.returns-in_err-take_byte-clause-scanned
returns-in_err-take_byte-clause-scanned g c =
    let stops = byte_stops _ _ (state g.K.Keep.keep c.take_byte.new.self) _ c.args.bytes.now c.loop-offset.offset c.in_err-take_byte.field-0.0
    c.loop-offset-test.true (ends_no_return _ (sym c.ends_word.ensures ∙ c.if-ends_word.true)) c.loop-offset.invariant.scanned
    c.in_err-take_byte.ensures.steps in
    let reported = err_from_is_err_and c.from_residual.result c.from_residual.ensures.1 in
    rw (reported.1, reported.2) stops
