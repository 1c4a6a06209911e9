-- `run_program`
use Rattle.cats_cmd.proofs.Common.{inr, plain_request, refl, texts_of}
use Rattle.cats_cmd.proofs.AnswersOfRequests.{silent_line}
use Rattle.cats_cmd.proofs.Unasked.{still_unasked, unasked_status}
use Rattle.cats_cmd.proofs.program.run_program.Goals as goal

pub returns-in-Ok-clause-silent : goal.returns-in-Ok-clause-silent
returns-in-Ok-clause-silent g c =
    silent_line _ _ (texts_of c.args.words.now) (plain_request c.in-Ok.request) _ c.in-Ok.ensures.request c.answer_request.ensures.silent

pub returns-in-Err-clause-answers : goal.returns-in-Err-clause-answers
returns-in-Err-clause-answers g c =
    let answer = c.with_escaped_words-no_request in
    inr (record {
      no_request = answer.result;
      unasked = still_unasked (texts_of c.args.words.now) c.in-Err.no_request answer.result c.in-Err.ensures.no_request answer.ensures;
      answers = c.answer_no_request.ensures;
    })

pub returns-in-Err-clause-opens : goal.returns-in-Err-clause-opens
returns-in-Err-clause-opens g c =
    let answer = c.with_escaped_words-no_request in
    let unasked = still_unasked (texts_of c.args.words.now) c.in-Err.no_request answer.result c.in-Err.ensures.no_request answer.ensures in
    inr (
      unasked_status g.W.Write.contents g.E.Write.contents (texts_of c.args.words.now) answer.result c.args.out.now c.answer_no_request.new.out c.args.err.now
          c.answer_no_request.new.err c.answer_no_request.result unasked c.answer_no_request.ensures,
      refl,
    )
