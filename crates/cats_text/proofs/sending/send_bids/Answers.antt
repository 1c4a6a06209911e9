-- `send_bids`
use Rattle.cats_text.proofs.Common.{rules, ◌++◌, ◌-◌, List, ℕ, arith, length, length-append, ap, ◌∙◌, drop, false≢true, Appends-nil, PlainFile, layout}
use Rattle.cats_text.proofs.Common.{LONGEST_LINE, length-drop}
use Rattle.cats_text.proofs.Writing.Ends.{rest_of}
use Rattle.cats_text.proofs.Writing.Pieces.{sent_on, within_on, line_held, failed_in_piece, headers_short}
use Rattle.cats_text.proofs.sending.send_bids.Goals as goal

pub loop-number-init : goal.loop-number-init
loop-number-init g c = search (rules, headers_short, Appends-nil)

pub returns-in_err-written-clause-sends : goal.returns-in_err-written-clause-sends
returns-in_err-written-clause-sends g c = search (rules, failed_in_piece)

pub flush_unless_fits-requires-clause-counted : goal.flush_unless_fits-requires-clause-counted
flush_unless_fits-requires-clause-counted g c = search rules

pub unreachable-requires : goal.unreachable-requires
unreachable-requires g c = search (rules, false≢true)

pub loop-number-preserved : goal.loop-number-preserved
loop-number-preserved g c =
    let file : PlainFile = g.B.Bids.file c.args.file.now in
    let now = c.loop-number in
    let wrote = c.in_ok-written.ensures in
    let count = c.in_ok-written.written in
    let line = c.write_bid-start.ensures.written in
    let text = rest_of LONGEST_LINE c.write_bid-start.result c.write_bid-start.new.line (c.write_bid-start.auto.line ∙ c.loop-number-test.array_long) in
    let held = c.in-Ok.ensures.items ∙ ap (λ (t : List ℕ). c.flush_unless_fits.new.page.items ++ t) text in
    record {
      working = wrote.sent.works;
      ended = wrote.ended ∙ now.invariant.ended;
      within = within_on now.written count now.page.items _ (layout file) wrote.count.0 wrote.count.1 now.invariant.left now.invariant.within;
      sent = sent_on now.written count now.page.items _ (layout file) wrote.count.0 wrote.count.1 now.invariant.left _ _ _ now.invariant.sent
          wrote.sent.appended;
      left = line_held file.goods file.bids now.number line.0 now.written count now.page.items _ _ (layout file)
          line.1 wrote.count.0 wrote.count.1 now.invariant.left wrote.left (held ∙ ap (λ (t : List ℕ). c.flush_unless_fits.new.page.items ++ t) line.2);
      space = omega (arith, now.invariant.space, wrote.capacity, c.in-Ok.ensures.capacity);
      counted = omega (
        arith,
        now.invariant.counted,
        wrote.count.0,
        wrote.count.1,
        ap length wrote.left,
        length-drop (count - now.written) now.page.items,
        ap length held,
        length-append c.flush_unless_fits.new.page.items (drop c.write_bid-start.result c.write_bid-start.new.line),
        length-drop c.write_bid-start.result c.write_bid-start.new.line,
        c.write_bid-start.auto.line ∙ c.loop-number-test.array_long,
      );
    }

pub send_piece-requires-clause-counted : goal.send_piece-requires-clause-counted
send_piece-requires-clause-counted g c = search rules

pub overflow_add-written : goal.overflow_add-written
overflow_add-written g c = search rules

pub returns-in_err-send_piece-clause-sends : goal.returns-in_err-send_piece-clause-sends
returns-in_err-send_piece-clause-sends g c = search (rules, failed_in_piece)
