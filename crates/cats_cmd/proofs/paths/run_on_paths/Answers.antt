-- `run_on_paths`
use Rattle.cats_cmd.proofs.Common.{inr, map, judgement_at, Ok, Err}
use Rattle.cats_cmd.proofs.JudgingPaths.{run_above, sent_status}
use Rattle.cats_cmd.proofs.Opening.{opens_first_none}
use Rattle.cats_cmd.proofs.RunsOfPaths.{all_printed, end_refused, end_unsent, head_unsent, run_begun, run_failed, sends_same}
use Rattle.cats_cmd.proofs.Storing.{wrote_nothing}
use Rattle.cats_cmd.proofs.paths.run_on_paths.Goals as goal

pub returns-in_err-sent-clause-runs : goal.returns-in_err-sent-clause-runs
returns-in_err-sent-clause-runs g c =
    run_failed _ _ _ _ _ _ _ _ _ _ _ _ _ _ _ _ _
    (head_unsent _ _ _ _ _ _ _ _ _ _ _ _ _ _ _ c.in_ok-collection.head.items c.in_ok-collection.ensures.1 (wrote_nothing _) _
    (sends_same g.W.Write.contents 0 c.as_slice.result.now c.in_ok-collection.head.items c.args.out.now c.send_next.new.out (Err c.in_err-sent.field-0.0)
    c.as_slice.ensures.value c.in_err-sent.ensures))
    _ c.from_residual-in_err-sent.ensures.1

pub returns-in_err-sent-clause-opens : goal.returns-in_err-sent-clause-opens
returns-in_err-sent-clause-opens g c =
    inr (run_above _ (sent_status _ _ _ _ _ _ c.in_err-sent.ensures) _ c.from_residual-in_err-sent.ensures.1, opens_first_none _ _ _ _)

pub returns-in_err-text-clause-runs : goal.returns-in_err-text-clause-runs
returns-in_err-text-clause-runs g c =
    let h = c.in_ok-judged.ensures.judges c.args.out.now c.in_ok-collection.head.items
    (run_begun g.W.Write.contents (g.C.Collection.Shows c.args.many) c.args.out.now c.send_next.new.out c.in_ok-collection.head.items c.in_ok-sent.sent
    c.in_ok-collection.ensures.1
    (sends_same g.W.Write.contents 0 c.as_slice.result.now c.in_ok-collection.head.items c.args.out.now c.send_next.new.out (Ok c.in_ok-sent.sent)
    c.as_slice.ensures.value c.in_ok-sent.ensures)) in
    run_failed _ _ _ _ _ _ _ _ _ _ _ _ _ _ _ _ _ (end_refused _ _ _ _ _ _ _ _ _ _ _
    (g.C.Collection.Makes c.args.many) _ _ _ _ _ _ _ _ h) _ c.from_residual-in_err-text.ensures.1

pub returns-in_err-send_next-clause-runs : goal.returns-in_err-send_next-clause-runs
returns-in_err-send_next-clause-runs g c =
    let h = c.in_ok-judged.ensures.judges c.args.out.now c.in_ok-collection.head.items
    (run_begun g.W.Write.contents (g.C.Collection.Shows c.args.many) c.args.out.now c.send_next.new.out c.in_ok-collection.head.items c.in_ok-sent.sent
    c.in_ok-collection.ensures.1
    (sends_same g.W.Write.contents 0 c.as_slice.result.now c.in_ok-collection.head.items c.args.out.now c.send_next.new.out (Ok c.in_ok-sent.sent)
    c.as_slice.ensures.value c.in_ok-sent.ensures)) in
    run_failed _ _ _ _ _ _ _ _ _ _ _ _ _ _ _ _ _
    (end_unsent _ _ _ _ _ _ _ _ _ _ _ _ _ _ _ _ _ _ _ _ h c.in_ok-text.text.items
    (c.in_ok-text.ensures (map judgement_at h.made.judged) h.made.text h.made.attempts h.has h.shows) _ _
    (sends_same g.W.Write.contents c.in_ok-judged.judged.sent c.as_slice-2.result.now c.in_ok-text.text.items c.judge_all.new.out c.send_next-2.new.out
    (Err c.in_err-send_next.field-0.0) c.as_slice-2.ensures.value c.in_err-send_next.ensures))
    _ c.from_residual-in_err-send_next.ensures.1

pub returns-clause-runs : goal.returns-clause-runs
returns-clause-runs g c =
    let h = c.in_ok-judged.ensures.judges c.args.out.now c.in_ok-collection.head.items
    (run_begun g.W.Write.contents (g.C.Collection.Shows c.args.many) c.args.out.now c.send_next.new.out c.in_ok-collection.head.items c.in_ok-sent.sent
    c.in_ok-collection.ensures.1
    (sends_same g.W.Write.contents 0 c.as_slice.result.now c.in_ok-collection.head.items c.args.out.now c.send_next.new.out (Ok c.in_ok-sent.sent)
    c.as_slice.ensures.value c.in_ok-sent.ensures)) in
    all_printed _ _ _ _ _ _ _ _ _ _ _ _ _ _ _ _ _ _ _ _ h c.in_ok-text.text.items
    (c.in_ok-text.ensures (map judgement_at h.made.judged) h.made.text h.made.attempts h.has h.shows) _ _
    (sends_same g.W.Write.contents c.in_ok-judged.judged.sent c.as_slice-2.result.now c.in_ok-text.text.items c.judge_all.new.out c.send_next-2.new.out
    (Ok c.in_ok-send_next.field-0) c.as_slice-2.ensures.value c.in_ok-send_next.ensures)
