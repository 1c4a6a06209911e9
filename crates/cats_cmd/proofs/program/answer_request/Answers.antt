-- `answer_request`
use Rattle.cats_cmd.proofs.Common.{inl, inr, plain_request}
use Rattle.cats_cmd.proofs.AnswersOfRequests.{silent_answer, done_answer, failed_request}
use Rattle.cats_cmd.proofs.program.answer_request.Goals as goal

pub returns-in-Ok-clause-silent : goal.returns-in-Ok-clause-silent
returns-in-Ok-clause-silent g c = silent_answer _ _ _ _ _ _ _ _ _ _ _ _ _ (plain_request c.args.request.now) c.carry_out.new.err _ (inl c.in-Ok.ensures.carries)

pub returns-in-Ok-clause-done : goal.returns-in-Ok-clause-done
returns-in-Ok-clause-done g c = done_answer _ _ _ _ _ _ _ _ _ _ _ _ _ (plain_request c.args.request.now) _ _ (inl c.in-Ok.ensures.carries)

pub returns-in-Err : goal.returns-in-Err
returns-in-Err g c =
    let request = plain_request c.args.request.now in
    let failed = failed_request _ _ _ _ _ _ _ _ _ _ _ _ _ request c.in-Err.fault _ _ _ c.in-Err.ensures.carries c.report_failure.ensures
    c.status.ensures in
    record {
      answers = inr failed;
      opens = rw c.status.ensures c.in-Err.ensures.opens;
      silent = silent_answer _ _ _ _ _ _ _ _ _ _ _ _ _ request _ _ (inr failed);
      done = done_answer _ _ _ _ _ _ _ _ _ _ _ _ _ request _ _ (inr failed);
    }
