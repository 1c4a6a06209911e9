-- The run of many files: what is made of them is sent, or it ends before that.
use Rattle.cats_cmd.proofs.Common.{◌≡◌, ◌+◌, ℕ, List, [], ◌++◌, Option, Result, Ok, Err, inl, inr, length, map, refl, sym, ap, ◌∙◌, subst, arith, take_all}
use Rattle.cats_cmd.proofs.Common.{Watched}
use Rattle.cats_cmd.proofs.Common.{PriceRule, SearchOptions, Memory, Only, HasJudged, Prints, Judgement, MakesOfPaths, Reporting, RunsOnPaths, judgement_at}
use Rattle.cats_cmd.proofs.Common.{BeginsRun, EndsOnPaths, FailsRun, IsErrAnd, Made, ShowsOfPaths, RunFault, Refused, Sent, SendsNext, Attempt, Unopened}
use Rattle.cats_cmd.proofs.Common.{bytes_counted}
use Rattle.cats_cmd.proofs.JudgingPaths.{counted_then, sent_part, sent_then}

nothing_before : (n : ℕ) → 0 + n ≡ n
nothing_before n = omega arith

-- the same text, by another name
pub sends_same : {W : Type 0} (contents : W → Option (List ℕ)) (sent : ℕ) (text other : List ℕ) (old new : Watched W) (answer : Result ℕ RunFault)
    → text ≡ other
    → SendsNext contents sent text old new answer → SendsNext contents sent other old new answer
sends_same contents sent text other old new answer same sends = subst (λ (t : List ℕ). SendsNext contents sent t old new answer) same sends

-- what is printed before all files was sent
pub run_begun : {W : Type 0} (contents : W → Option (List ℕ)) (Shows : List (List ℕ × Judgement) → List ℕ → List Attempt → Type 0) (out out_after : Watched W)
    (head : List ℕ) (sent : ℕ) → Shows [] head [] → SendsNext contents 0 head out out_after (Ok sent) → BeginsRun contents Shows out out_after head sent
run_begun contents Shows out out_after head sent shows sends =
    record { sends = sends.1; shows = shows; is_sent = sends.0 ∙ ap bytes_counted (nothing_before (length head)) }

module _ {F W E : Type 0} (may_open : List ℕ → F → Type 0) (may_refuse : List ℕ → Unopened → Type 0) (remaining : F → Option (List ℕ))
    (contents : W → Option (List ℕ)) (messages : E → Option (List ℕ)) (options : Option SearchOptions) (prices : Option PriceRule)
    (Shows : List (List ℕ × Judgement) → List ℕ → List Attempt → Type 0) (Wrote : List Attempt → Type 0)
    (paths : List (List ℕ)) (reporting : Reporting) (Makes : List (List ℕ × Judgement) → List ℕ → List Attempt → Type 0) where
  -- it ended among the paths
  pub run_ended : (out out_after : Watched W) (err err_after : Watched E) (fault : RunFault)
      → EndsOnPaths may_open may_refuse remaining contents messages options prices Shows Wrote paths reporting out out_after err err_after fault
      → FailsRun may_open may_refuse remaining contents messages options prices Shows Wrote paths reporting Makes out out_after err err_after fault
  run_ended out out_after err err_after (Refused which fault) ends = inl ends
  run_ended out out_after err err_after (Sent fault) ends = inl ends
  run_ended out out_after err err_after fault ends = absurd ends

  -- it ended with this fault
  pub run_failed : (out out_after : Watched W) (err err_after : Watched E) (fault : RunFault)
      → FailsRun may_open may_refuse remaining contents messages options prices Shows Wrote paths reporting Makes out out_after err err_after fault
      → (answer : Result ℕ RunFault) → IsErrAnd answer (λ reported. reported ≡ fault)
      → RunsOnPaths may_open may_refuse remaining contents messages options prices Shows Wrote paths reporting Makes out out_after err err_after answer
  run_failed out out_after err err_after fault fails (Ok status) is = absurd is
  run_failed out out_after err err_after fault fails (Err reported) is = rw is fails

  -- the output failed in what is printed before all files
  pub head_unsent : (out out_after : Watched W) (err : Watched E) (head : List ℕ) → Shows [] head [] → Wrote [] → (fault : RunFault)
      → SendsNext contents 0 head out out_after (Err fault)
      → FailsRun may_open may_refuse remaining contents messages options prices Shows Wrote paths reporting Makes out out_after err err fault
  head_unsent out out_after err head shows wrote (Sent fault) sends = inl (record {
    made = record { judged = []; text = head; attempts = [] };
    shows = record {
      begins = record {
        count = 0;
        between = err;
        judges = record { of_paths = refl; each = tt; reports = refl; each_reports = refl };
        begins = inl refl;
      };
      shows = shows;
      wrote = wrote;
    };
    count = sends.0;
    is_counted = sends.1 ∙ ap bytes_counted (nothing_before sends.0);
    sent = sends.2;
  })
  head_unsent out out_after err head shows wrote fault sends = absurd sends

  module _ {C : Type 0} (Has : C → List (List ℕ × Judgement) → Type 0) (kept : C) (greatest sent : ℕ) (out between : Watched W) (err err_after : Watched E)
      (h : HasJudged Has Shows Wrote may_open may_refuse remaining options prices contents messages reporting (length paths) paths kept out between err
      err_after greatest sent) where
    -- memory was refused behind all of them
    pub end_refused : FailsRun may_open may_refuse remaining contents messages options prices Shows Wrote paths reporting Makes out between err err_after
        (Refused Only Memory)
    end_refused = inl (record {
      only = refl;
      memory = refl;
      made = h.made;
      shows = record {
        begins = record {
          count = length paths;
          between = err_after;
          judges = rw (take_all (length paths) paths (omega arith)) h.judges;
          begins = inl refl;
        };
        shows = h.shows;
        wrote = h.wrote;
      };
      sends = h.sends;
    })

    module _ (text : List ℕ) (makes : Makes (map judgement_at h.made.judged) (h.made.text ++ text) h.made.attempts) (out_after : Watched W) where
      -- the output failed in what is printed behind all
      pub end_unsent : (fault : RunFault) → SendsNext contents sent text between out_after (Err fault)
          → FailsRun may_open may_refuse remaining contents messages options prices Shows Wrote paths reporting Makes out out_after err err_after fault
      end_unsent (Sent fault) sends = inr (record {
        made = record { judged = h.made.judged; text = h.made.text ++ text; attempts = h.made.attempts };
        makes = record { judges = h.judges; makes = makes; wrote = h.wrote };
        count = length h.made.text + sends.0;
        is_counted = sends.1 ∙ ap (λ (n : ℕ). bytes_counted (n + sends.0)) h.is_sent ∙ counted_then (length h.made.text) sends.0;
        sent = sent_part contents h.made.text text sends.0 out between out_after h.sends sends.2;
      })
      end_unsent fault sends = absurd sends

      -- all was printed
      pub all_printed : (all : ℕ) → SendsNext contents sent text between out_after (Ok all)
          → RunsOnPaths may_open may_refuse remaining contents messages options prices Shows Wrote paths reporting Makes out out_after err err_after
          (Ok greatest)
      all_printed all sends = record {
        given = record { judged = h.made.judged; text = h.made.text ++ text; attempts = h.made.attempts };
        reads = record { judges = h.judges; makes = makes; wrote = h.wrote };
        text = h.made.text ++ text;
        made = ap (λ (s : ℕ). Prints s (h.made.text ++ text)) (sym h.is_greatest);
        sent = sent_then contents h.made.text text out between out_after h.sends sends.1;
      }
