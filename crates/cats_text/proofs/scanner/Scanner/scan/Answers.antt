-- `Scanner::scan`: the bytes so far are scanned; what goes on from there, and one more byte where it stops short, make the scan longer.
use Rattle.cats_text.proofs.Common.{◌≡◌, ◌≢◌, ◌+◌, ◌≤◌, ◌<◌, Ok, length, drop, get_or, arith, rules, err_from_is_err_and, state, byte_step, IsScanned}
use Rattle.cats_text.proofs.Common.{return_byte}
use Rattle.cats_text.proofs.Scanning.Rests.{scan_byte_at, scan_last_return_at, scan_return_at}
use Rattle.cats_text.proofs.Scanning.WholeWords.{rest_scanned, byte_stops}
use Rattle.cats_text.proofs.scanner.Scanner.scan.Goals as goal
use Rattle.cats_text.proofs.scanner.Scanner.scan.Goals.{then-bytes-offset-ne13+in_ok-take_byte, else-bytes-offset-ne13+then-offset-bytes-2}
use Rattle.cats_text.proofs.scanner.Scanner.scan.Goals.{else-bytes-offset-ne13+else-offset-bytes-2+in_ok-take_byte-2}

pub returns-in_err-take_byte-clause-steps : goal.returns-in_err-take_byte-clause-steps
returns-in_err-take_byte-clause-steps g c =
    let both = rest_scanned _ _ _ _ _ c.args.bytes.now c.loop-offset.offset c.in_ok-offset.field-0 c.loop-offset-test.true c.loop-offset.invariant.0
    c.in_ok-offset.ensures.scanned in
    let most : c.loop-offset.offset + c.in_ok-offset.field-0 ≤ length c.args.bytes.now = both.1 in
    let left : c.loop-offset.offset + c.in_ok-offset.field-0 ≢ length c.args.bytes.now = search rules in
    let here : c.loop-offset.offset + c.in_ok-offset.field-0 < length c.args.bytes.now = omega arith in
    let ne : get_or c.args.bytes.now (c.loop-offset.offset + c.in_ok-offset.field-0) 0 ≢ 13 = c.if-bytes-offset-ne13.true in
    let stops = byte_stops _ _ (state g.K.Keep.keep c.take_byte.new.self) _ c.args.bytes.now (c.loop-offset.offset + c.in_ok-offset.field-0)
    c.in_err-take_byte.field-0.0 here ne both.0 c.in_err-take_byte.ensures.steps in
    let reported = err_from_is_err_and c.from_residual-in_err-take_byte.result c.from_residual-in_err-take_byte.ensures.1 in
    rw (reported.1, reported.2) stops

pub loop-offset-preserved : goal.loop-offset-preserved
loop-offset-preserved g c =
    let both = rest_scanned _ _ _ _ _ c.args.bytes.now c.loop-offset.offset c.in_ok-offset.field-0 c.loop-offset-test.true c.loop-offset.invariant.0
    c.in_ok-offset.ensures.scanned in
    let so_far : IsScanned (state g.K.Keep.keep c.args.self.now) (state g.K.Keep.keep c.go_on.new.self) c.go_on.new.self.waiting c.args.bytes.now
    (drop (c.loop-offset.offset + c.in_ok-offset.field-0) c.args.bytes.now) = both.0 in
    let most : c.loop-offset.offset + c.in_ok-offset.field-0 ≤ length c.args.bytes.now = both.1 in
    let left : c.loop-offset.offset + c.in_ok-offset.field-0 ≢ length c.args.bytes.now = search rules in
    let here : c.loop-offset.offset + c.in_ok-offset.field-0 < length c.args.bytes.now = omega arith in
    let line : c.go_on.new.self.line ≤ c.args.self.now.line + (c.loop-offset.offset + c.in_ok-offset.field-0) =
    omega (arith, c.loop-offset.invariant.1, c.in_ok-offset.ensures.line) in
    elim c.if-bytes-offset-ne13.branch [
      | then-bytes-offset-ne13+in_ok-take_byte w ↦ rw w.self-is (
        scan_byte_at _ _ _ _ _ c.args.bytes.now (c.loop-offset.offset + c.in_ok-offset.field-0) here (search rules) so_far w.in_ok-take_byte.ensures.steps
            w.in_ok-take_byte.ensures.waiting,
        omega (arith, line, w.in_ok-take_byte.ensures.line),
        omega (arith, here),
      )
      | else-bytes-offset-ne13+then-offset-bytes-2 w ↦ rw w.self-is (
        scan_last_return_at _ _ _ c.args.bytes.now (c.loop-offset.offset + c.in_ok-offset.field-0) (search rules) (search rules) so_far,
        omega (arith, line),
        omega (arith, here),
      )
      | else-bytes-offset-ne13+else-offset-bytes-2+in_ok-take_byte-2 w ↦ rw w.self-is
          (let ne : c.loop-offset.offset + c.in_ok-offset.field-0 + 1 ≢ length c.args.bytes.now = search rules in
          let step : byte_step (state g.K.Keep.keep c.go_on.new.self) (return_byte
          (get_or c.args.bytes.now (c.loop-offset.offset + c.in_ok-offset.field-0 + 1) 0))
          ≡ Ok (state g.K.Keep.keep w.take_byte-else-offset-bytes-2.new.self) = rw w.carriage_return.ensures at w.in_ok-take_byte-2.ensures.steps in (
            scan_return_at _ _ _ _ _ c.args.bytes.now (c.loop-offset.offset + c.in_ok-offset.field-0) (omega (arith, ne, here)) (search rules) so_far step
                w.in_ok-take_byte-2.ensures.waiting,
            omega (arith, line, w.in_ok-take_byte-2.ensures.line),
            omega (arith, here),
          ))
    ]
