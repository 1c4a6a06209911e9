-- `answer`
use Rattle.std.proofs.Common.{◌≡◌, ◌∙◌, ap, inl, inr, map, refl, sym}
use Rattle.std.specs.Prelude.{string_bytes}
use Rattle.requests.specs.Requests.{plain_request}
use Rattle.cats_c.specs.Calls.{names_of, request_of}
use Rattle.cats_c.proofs.call.answer.Goals as goal

pub returns-in-Ok-Some-request_of : goal.returns-in-Ok-Some-request_of
returns-in-Ok-Some-request_of c =
    let named : map string_bytes c.as_slice.result.now ≡ names_of c.args.texts.now =
    ap (map string_bytes) c.as_slice.ensures.value ∙ (rw c.in-Ok-Some.field-0-is at c.in-Ok-Some.ensures) in
    inl (record {
      asked = plain_request c.in-Ok-Some-request_of.request;
      is_request = sym ((rw c.in-Ok-Some-request_of.field-0-is at c.in-Ok-Some-request_of.ensures) ∙ ap (request_of c.args.request.now) named);
      answers = rw c.new.ensures at c.answer_request.ensures.answers;
    })

pub returns-in-Ok-None-request_of : goal.returns-in-Ok-None-request_of
returns-in-Ok-None-request_of c =
    let named : map string_bytes c.as_slice.result.now ≡ names_of c.args.texts.now =
    ap (map string_bytes) c.as_slice.ensures.value ∙ (rw c.in-Ok-Some.field-0-is at c.in-Ok-Some.ensures) in
    inr (inl (record {
      wrong = inr (
          sym ((rw c.in-Ok-None-request_of.field-0-is at c.in-Ok-None-request_of.ensures) ∙ ap (request_of c.args.request.now) named));
      is_status = refl;
      silent = (refl, refl);
    }))
