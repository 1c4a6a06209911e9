-- `carry_out_on_pair`
use Rattle.cats_cmd.proofs.Common.{Bool, ap, inl, answer_if_lost}
use Rattle.cats_cmd.proofs.CarryingOut.{is_priced}
use Rattle.cats_cmd.proofs.JudgingPaths.{reports_more}
use Rattle.cats_cmd.proofs.Sending.{pair_run}
use Rattle.cats_cmd.proofs.carrying_out.carry_out_on_pair.Goals as goal

pub returns-clause-carries : goal.returns-clause-carries
returns-clause-carries g c =
    let request = c.args.request.now in
    let opened = c.in_ok-left.ensures.opened in
    rw c.answer_if_lost.ensures (inl (record {
      left = c.new-left.result;
      left_after = c.answer_on_pair-answer.new.first;
      right = c.new-right.result;
      right_after = c.answer_on_pair-answer.new.second;
      left_opened = is_priced _ _ _ c.in_ok-left.left _ c.new-left.ensures.stream c.new-left.ensures.rule c.new-left.ensures.unread opened.0;
      right_opened = is_priced _ _ _ c.in_ok-left.right _ c.new-right.ensures.stream c.new-right.ensures.rule c.new-right.ensures.unread opened.1;
      sent = c.send_answer-sent.result;
      runs = pair_run _ _ _ _ _ _ _ _ _ request.task request.options _ _ c.answer_on_pair-answer.result c.answer_on_pair-answer.ensures _
          c.send_answer-sent.ensures;
      reports = reports_more _ _ _ _ c.report_rounded.new.err _ (rw (c.as_bytes.ensures.value, c.rounded.ensures) at c.report_rounded.ensures)
          (rw (c.as_bytes-2.ensures.value, c.rounded-2.ensures) at c.report_rounded-2.ensures);
      answers = ap (λ (lost : Bool). answer_if_lost lost c.send_answer-sent.result) (rw (c.max.ensures, c.rounded-3.ensures, c.rounded-4.ensures) at
          c.is_lost-lost.ensures);
    }))
