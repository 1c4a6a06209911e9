-- `run_at`
use Rattle.cats_cmd.proofs.Common.{Bool, ap, inl, answer_if_lost, outcome_of, plain_request}
use Rattle.cats_cmd.proofs.CarryingOut.{is_priced}
use Rattle.cats_cmd.proofs.Sending.{file_run_if_met}
use Rattle.cats_cmd.proofs.carrying_out.run_at.Goals as goal

pub returns-clause-runs : goal.returns-clause-runs
returns-clause-runs g c =
    let request = c.args.request.now in
    rw c.answer_if_lost.ensures (inl (record {
      before = c.new-input.result;
      after = c.answer_on_file-answer.new.input;
      opened = is_priced _ _ _ c.in_ok-stream.stream _ c.new-input.ensures.stream c.new-input.ensures.rule c.new-input.ensures.unread
          c.in_ok-stream.ensures.opened;
      sent = c.send_answer-sent.result;
      runs = file_run_if_met _ _ _ (outcome_of (plain_request request) c.args.bids.now) _ _ _ _ c.answer_on_file-answer.result
          c.answer_on_file-answer.ensures _ c.send_answer-sent.ensures;
      reports = rw (c.as_bytes.ensures.value, c.rounded.ensures) at c.report_rounded.ensures;
      answers = ap (λ (lost : Bool). answer_if_lost lost c.send_answer-sent.result) (rw c.rounded-2.ensures at c.is_lost-lost.ensures);
    }))
