-- Lines without a request: what is answered to one stays an answer to it with another text of a wrong usage, and only want of memory is answered to
-- a line that has a request.
use Rattle.cats_cmd.proofs.Common.{◌≡◌, ℕ, List, Option, None, Some, refl, false, ◌⊎◌, inl, inr, Watched, PlainRequest, request_of, IsNoRequestOf}
use Rattle.cats_cmd.proofs.Common.{is_no_memory, NoRequest, WrongUsage, NoMemory, only_memory, IsButForText, AnswersNoRequest}

pub still_unasked : (words : List (List ℕ)) (before after : NoRequest) → IsNoRequestOf words before → IsButForText before after
    → IsNoRequestOf words after
still_unasked words (WrongUsage text) (WrongUsage other) unasked like = unasked
still_unasked words (WrongUsage text) after unasked like = cc
still_unasked words before after unasked like = rw like unasked

none_asked : (words : List (List ℕ)) (answer : NoRequest) → is_no_memory answer ≡ false → IsNoRequestOf words answer → request_of words ≡ None
none_asked words answer other unasked = go (request_of words) refl
  where
    go : (found : Option PlainRequest) → request_of words ≡ found → found ≡ None
    go None is = refl
    go (Some request) is = let memory = only_memory words request answer is unasked in absurd (cc)

pub unasked_status : {W E : Type 0} (contents : W → Option (List ℕ)) (messages : E → Option (List ℕ)) (words : List (List ℕ)) (answer : NoRequest)
    (out out_after : Watched W) (err err_after : Watched E) (status : ℕ) → IsNoRequestOf words answer
    → AnswersNoRequest contents messages answer out out_after err err_after status → (request_of words ≡ None) ⊎ (status ≡ 4)
unasked_status contents messages words NoMemory out out_after err err_after status unasked answers = inr answers.0
unasked_status contents messages words answer out out_after err err_after status unasked answers = inl (none_asked words answer refl unasked)
