-- One more path, whose file was judged: what became of the files before it stays, and the path adds its judgement, how many of its prices
-- were rounded, a status that may be the greatest, and its lines.
use Rattle.cats_cmd.proofs.Common.{◌≡◌, ℕ, suc, ◌+◌, ◌<◌, ◌≤◌, max, List, [], ◌∷◌, ◌++◌, length, map, get_or, take, refl, sym, ap, ◌∙◌, subst, arith, inl, inr}
use Rattle.cats_cmd.proofs.Common.{Option, Some, Result, Ok, Err, Bor, AllByRecursion, flat_map, append-nil, append_assoc, map-append, take_more, length-append}
use Rattle.cats_cmd.proofs.Common.{length-map, length-take-le, take-map, take_all, take-append-add, fold_push, Watched, PriceRule, SearchOptions, AddsPath}
use Rattle.cats_cmd.proofs.Common.{Appends-trans, BeginsRun, EndsOnPaths, FailsOnPaths, HasJudged, Judged, JudgesAllAs, JudgesPaths, Made, RefusesPaths}
use Rattle.cats_cmd.proofs.Common.{FilePath, RoundedCount}
use Rattle.cats_cmd.proofs.Common.{Judges, Reporting, ReportsFrom, ReportsPath, greatest_status, judgement_at, lines_from, lines_of_path, report_lines}
use Rattle.cats_cmd.proofs.Common.{status_of_path, without_refusals, removal_lines, rounding_lines, progress_lines, fault_judged, is_lost, Bool, bytes_counted}
use Rattle.cats_cmd.proofs.Common.{Silent, JudgedPath, Judgement, ReportsAll, RunFault, Sent, Unopened, Only, Memory, SendFault, SendsNext, SendsPart}
use Rattle.cats_cmd.proofs.Common.{SendsWhole}
use Rattle.cats_cmd.proofs.Common.{StopsAtPath, Attempt, Text, Unwritten, WritesEach, inner_of, option_map, IsErrAnd, status_of_fault, status_of_run}
use Rattle.cats_cmd.proofs.Storing.{wrote_none, wrote_nothing, wrote_then}
use Rattle.std.specs.Prelude.{slice_get}
use Rattle.std.proofs.lemmas.List.{map_more}
use Rattle.std.proofs.lemmas.Option.{slice_get-get_or, slice_get-map}

pub all_push : {X : Type 0} (P : X → Type 0) (xs : List X) (x : X) → AllByRecursion P xs → P x → AllByRecursion P (xs ++ x ∷ [])
all_push P [] x h p = (p, tt)
all_push P (y ∷ xs) x h p = (h.0, all_push P xs x h.1 p)

-- ---- what is reported

pub reports_more : {E : Type 0} (messages : E → Option (List ℕ)) (lines more : List (List ℕ)) (a b c : Watched E) → ReportsAll messages lines a b
    → ReportsAll messages more b c → ReportsAll messages (lines ++ more) a c
reports_more {E = E} messages [] more a b c first then = subst (λ (e : Watched E). ReportsAll messages more e c) first then
reports_more messages (line ∷ lines) more a b c first then = (first.0, first.1, reports_more messages lines more first.0 b c first.2 then)

lines_push : (reporting : Reporting) (count number : ℕ) (js : List JudgedPath) (j : JudgedPath)
    → lines_from reporting count number (js ++ j ∷ []) ≡ lines_from reporting count number js ++ lines_of_path reporting count (number + length js) j
lines_push reporting count number [] j = let same : number + 0 ≡ number = omega arith in rw same (append-nil (lines_of_path reporting count number j))
lines_push reporting count number (i ∷ js) j =
    let same : suc number + length js ≡ number + suc (length js) = omega arith in
    rw (lines_push reporting count (suc number) js j, same)
    (sym (append_assoc (lines_of_path reporting count number i) (lines_from reporting count (suc number) js)
    (lines_of_path reporting count (number + suc (length js)) j)))

-- only how many prices of each file were rounded, if refusals are not reported, nor how many files were read
pub roundings_reported : (count number : ℕ) (js : List JudgedPath)
    → lines_from (without_refusals Silent) count number js ≡ flat_map (λ j. rounding_lines j.path j.rounded) js
roundings_reported count number [] = refl
roundings_reported count number (j ∷ js) = simp (append-nil, roundings_reported count (suc number) js)

-- what is reported of one path
pub path_reported : {E : Type 0} (messages : E → Option (List ℕ)) (first then more last : List (List ℕ)) (a b c d e : Watched E)
    → ReportsAll messages first a b → ReportsAll messages then b c → ReportsAll messages more c d → ReportsAll messages last d e
    → ReportsAll messages (first ++ then ++ more ++ last) a e
path_reported messages first then more last a b c d e one two three four =
    reports_more messages (first ++ then ++ more) last a d e
    (reports_more messages (first ++ then) more a c d (reports_more messages first then a b c one two) three) four

-- the same, until its rounded prices were reported, and then
pub path_reports : {E : Type 0} (messages : E → Option (List ℕ)) (reporting : Reporting) (count number : ℕ) (path : List ℕ) (judgement : Judgement)
    (fault : Option RunFault) → fault ≡ fault_judged judgement → (rounded : RoundedCount) (lost : Bool) (a b c d e : Watched E) → lost ≡ is_lost rounded.count d
    → ReportsAll messages (progress_lines reporting.progress number count path) a b → ReportsAll messages (removal_lines reporting.progress) b c
    → ReportsAll messages (rounding_lines path rounded) c d → ReportsAll messages (reporting.refusals path fault) d e
    → ReportsPath messages reporting count number (record { path = path; judgement = judgement; rounded = rounded; lost = lost }) a e
path_reports messages reporting count number path judgement fault is rounded lost a b c d e loses one two three four =
    let named = progress_lines reporting.progress number count path in
    let removed = removal_lines reporting.progress in
    record {
      between = d;
      roundings = reports_more messages (named ++ removed) (rounding_lines path rounded) a c d (reports_more messages named removed a b c one two) three;
      loses = loses;
      others = rw is at four;
    }

reports_push : {E : Type 0} (messages : E → Option (List ℕ)) (reporting : Reporting) (count number : ℕ) (js : List JudgedPath) (j : JudgedPath)
    (a b c : Watched E) → ReportsFrom messages reporting count number js a b → ReportsPath messages reporting count (number + length js) j b c
    → ReportsFrom messages reporting count number (js ++ j ∷ []) a c
reports_push {E = E} messages reporting count number [] j a b c before now =
    let same : number + 0 ≡ number = omega arith in (
      c,
      subst (λ (e : Watched E). ReportsPath messages reporting count number j e c) before
          (subst (λ (n : ℕ). ReportsPath messages reporting count n j b c) same now),
      refl,
    )
reports_push messages reporting count number (i ∷ js) j a b c before now =
    let same : number + suc (length js) ≡ suc number + length js = omega arith in (
      before.0,
      before.1,
      reports_push messages reporting count (suc number) js j before.0 b c before.2
          (subst (λ (n : ℕ). ReportsPath messages reporting count n j b c) same now),
    )

-- ---- the paths so far

pub counted_then : (n m : ℕ) → bytes_counted (bytes_counted n + m) ≡ bytes_counted (n + m)
counted_then n m = grind arith

-- one text was sent behind another
pub sent_then : {W : Type 0} (contents : W → Option (List ℕ)) (first then : List ℕ) (a b c : Watched W) → SendsWhole contents a b first
    → SendsWhole contents b c then → SendsWhole contents a c (first ++ then)
sent_then contents first then a b c one two = record {
  appended = Appends-trans (contents (inner_of a)) (contents (inner_of b)) (contents (inner_of c)) first then one.appended two.appended;
  works = two.works;
}

-- the output failed in the second
pub sent_part : {W : Type 0} (contents : W → Option (List ℕ)) (first then : List ℕ) (count : ℕ) (a b c : Watched W) → SendsWhole contents a b first
    → SendsPart contents b c then count → SendsPart contents a c (first ++ then) (length first + count)
sent_part contents first then count a b c one two = record {
  within = let within = two.within in rw (length-append first then) (omega (arith, within));
  appended = rw (take-append-add first then count)
      (Appends-trans (contents (inner_of a)) (contents (inner_of b)) (contents (inner_of c)) first (take count then) one.appended two.appended);
  failed = two.failed;
}

module _ {C F W E : Type 0} {may_not_write : List ℕ → Unwritten → Type 0} (Has : C → List (List ℕ × Judgement) → Type 0)
    (Shows : List (List ℕ × Judgement) → List ℕ → List Attempt → Type 0)
    (first : Option (List Text)) (may_open : List ℕ → F → Type 0) (may_refuse : List ℕ → Unopened → Type 0)
    (remaining : F → Option (List ℕ)) (options : Option SearchOptions) (prices : Option PriceRule) (contents : W → Option (List ℕ))
    (messages : E → Option (List ℕ)) (reporting : Reporting) (count : ℕ) (out : Watched W) (err : Watched E) where
  pub none_judged : (kept : C) (out_after : Watched W) (printed : List ℕ) (sent : ℕ) → Has kept [] → BeginsRun contents Shows out out_after printed sent
      → HasJudged Has Shows (WritesEach may_not_write first first) may_open may_refuse remaining options prices contents messages reporting count [] kept out
      out_after err err
      0 sent
  none_judged kept out_after printed sent has begins = record {
    made = record { judged = []; text = printed; attempts = [] };
    judges = record { of_paths = refl; each = tt; reports = refl; each_reports = refl };
    has = has;
    shows = begins.shows;
    wrote = wrote_nothing first;
    sends = begins.sends;
    is_greatest = refl;
    is_sent = begins.is_sent;
  }

  module _ (known now : Option (List Text)) (paths : List (List ℕ)) (kept more : C) (greatest sent : ℕ) (between : Watched W) (before after : Watched E)
      (path : List ℕ) (status : ℕ) (text : List ℕ)
      (h : HasJudged Has Shows (WritesEach may_not_write first known) may_open may_refuse remaining options prices contents messages reporting count paths kept
      out between
      err before greatest sent)
      (a : AddsPath Has Shows (WritesEach may_not_write known now) may_open may_refuse remaining options prices messages reporting count
      (length paths + 1) path kept more
      before after status text) where
    abbrev path_added : JudgedPath
    path_added = record { path = path; judgement = a.judgement; rounded = a.rounded; lost = a.lost }

    -- what was made, with one path more
    abbrev made_more : Made
    made_more = record { judged = h.made.judged ++ path_added ∷ []; text = h.made.text ++ text; attempts = h.made.attempts ++ a.more }

    more_judgements : map judgement_at (h.made.judged ++ path_added ∷ []) ≡ map judgement_at h.made.judged ++ judgement_at path_added ∷ []
    more_judgements = map-append judgement_at h.made.judged (path_added ∷ [])

    judges_more : JudgesPaths may_open may_refuse remaining messages options prices reporting count (paths ++ path ∷ []) err after made_more.judged
    judges_more =
        let js = h.made.judged in
        let j : JudgedPath = record { path = path; judgement = a.judgement; rounded = a.rounded; lost = a.lost } in
        let long : length paths + 1 ≡ 1 + length js =
        let e = sym (length-map js (λ (x : JudgedPath). x.path)) ∙ ap (length {A = List ℕ}) h.judges.of_paths in omega (arith, e) in
        let all : ReportsAll messages (report_lines reporting count js ++ lines_of_path reporting count (1 + length js) j) err after =
        reports_more messages (report_lines reporting count js) (lines_of_path reporting count (1 + length js) j) err before after h.judges.reports
        (subst (λ (n : ℕ). ReportsAll messages (lines_of_path reporting count n j) before after) long a.reports) in
        record {
          of_paths = map-append (λ (x : JudgedPath). x.path) js (j ∷ []) ∙ ap (λ (ps : List (List ℕ)). ps ++ path ∷ []) h.judges.of_paths;
          each = all_push (Judges may_open may_refuse remaining options prices) js j h.judges.each a.judges;
          reports = subst (λ (lines : List (List ℕ)). ReportsAll messages lines err after) (sym (lines_push reporting count 1 js j)) all;
          each_reports = reports_push messages reporting count 1 js j err before after h.judges.each_reports
              (subst (λ (n : ℕ). ReportsPath messages reporting count n j before after) long a.path_reports);
        }

    shows_more : Shows (map judgement_at made_more.judged) made_more.text made_more.attempts
    shows_more = subst (λ (judgements : List (List ℕ × Judgement)). Shows judgements (h.made.text ++ text) (h.made.attempts ++ a.more)) (sym more_judgements)
        (a.shows (map judgement_at h.made.judged) h.made.text h.made.attempts h.has h.shows)

    wrote_more : WritesEach may_not_write first now made_more.attempts
    wrote_more = wrote_then first known now h.made.attempts a.more h.wrote a.wrote

    pub judged_more : (out_after : Watched W) (all : ℕ) → SendsNext contents sent text between out_after (Ok all)
        → HasJudged Has Shows (WritesEach may_not_write first now) may_open may_refuse remaining options prices contents messages reporting count
        (paths ++ path ∷ []) more out
        out_after err after (max greatest status) all
    judged_more out_after all sends = record {
      made = made_more;
      judges = judges_more;
      has = subst (λ (judgements : List (List ℕ × Judgement)). Has more judgements) (sym more_judgements) (a.adds (map judgement_at h.made.judged) h.has);
      shows = shows_more;
      wrote = wrote_more;
      sends = sent_then contents h.made.text text out between out_after h.sends sends.1;
      is_greatest = ap (λ (g : ℕ). max g status) h.is_greatest ∙ ap (max (greatest_status h.made.judged)) a.is_status
          ∙ sym (fold_push (λ (g : ℕ) (x : JudgedPath). max g (status_of_path x)) 0 h.made.judged path_added);
      is_sent = sends.0 ∙ ap (λ (n : ℕ). bytes_counted (n + length text)) h.is_sent ∙ counted_then (length h.made.text) (length text)
          ∙ ap bytes_counted (sym (length-append h.made.text text));
    }

    -- the output failed in what is printed of the path
    pub failed_more : (all : List (List ℕ)) → count ≡ length all → take (length paths + 1) all ≡ paths ++ path ∷ []
        → (out_after : Watched W) (fault : SendFault)
        → SendsNext contents sent text between out_after (Err (Sent fault))
        → FailsOnPaths may_open may_refuse remaining contents messages options prices Shows (WritesEach may_not_write first now) all reporting out out_after
        err after
        fault.written
    failed_more all so_many these out_after fault sends = record {
      made = made_more;
      shows = record {
        begins = record {
          count = length paths + 1;
          between = after;
          judges = rw (these, sym so_many) judges_more;
          begins = inl refl;
        };
        shows = shows_more;
        wrote = wrote_more;
      };
      count = length h.made.text + sends.0;
      is_counted = sends.1 ∙ ap (λ (n : ℕ). bytes_counted (n + sends.0)) h.is_sent ∙ counted_then (length h.made.text) sends.0;
      sent = part_more out_after sends.0 sends.2;
    } where
      part_more : (out_after : Watched W) (count : ℕ) → SendsPart contents between out_after text count
          → SendsPart contents out out_after made_more.text (length h.made.text + count)
      part_more out_after count part = sent_part contents h.made.text text count out between out_after h.sends part

-- ---- as the code has them

-- the paths up to the next one
pub one_more_path : (paths : List (Bor (List ℕ))) (i : ℕ) (d : Bor (List ℕ)) → i < length paths
    → map (λ p. p.now) (take (i + 1) paths) ≡ map (λ p. p.now) (take i paths) ++ (get_or paths i d).now ∷ []
one_more_path paths i d l = ap (map (λ (p : Bor (List ℕ)). p.now)) (take_more paths i d l)
    ∙ map-append (λ (p : Bor (List ℕ)). p.now) (take i paths) (get_or paths i d ∷ [])

abbrev path_at : FilePath → List ℕ
path_at file = file.path.now

so_many : (paths : List FilePath) (i : ℕ) → i < length paths → length (map path_at (take i paths)) ≡ i
so_many paths i l = length-map (take i paths) path_at ∙ length-take-le i paths (omega (arith, l))

module _ {C F W E : Type 0} {may_not_write : List ℕ → Unwritten → Type 0} (Has : C → List (List ℕ × Judgement) → Type 0)
    (Shows : List (List ℕ × Judgement) → List ℕ → List Attempt → Type 0)
    (first known : Option (List Text)) (may_open : List ℕ → F → Type 0) (may_refuse : List ℕ → Unopened → Type 0)
    (remaining : F → Option (List ℕ)) (options : Option SearchOptions) (prices : Option PriceRule) (contents : W → Option (List ℕ))
    (messages : E → Option (List ℕ)) (reporting : Reporting) (paths : List FilePath) (out : Watched W) (err : Watched E)
    (i : ℕ) (kept : C) (greatest sent : ℕ) (between : Watched W) (before : Watched E)
    (h : HasJudged Has Shows (WritesEach may_not_write first known) may_open may_refuse remaining options prices contents messages reporting (length paths)
    (map path_at (take i paths)) kept out between err before greatest sent) where
  -- these were all
  pub all_judged : length paths ≤ i → (judged : Judged) → judged.greatest ≡ greatest → judged.sent ≡ sent
      → JudgesAllAs Has Shows (WritesEach may_not_write first known) may_open may_refuse remaining options prices contents messages reporting
      (map path_at paths) kept out
      between err before (Ok judged)
  all_judged most judged g s = rw (g, s, length-map paths path_at) (rw (take_all i paths most) at h)

  module _ (now : Option (List Text)) (d : FilePath) (l : i < length paths) (after : Watched E) where
    -- memory was refused at the next path
    pub first_judged : StopsAtPath Has Shows (WritesEach may_not_write known now) may_open may_refuse remaining options prices messages reporting
        (length paths) (i + 1)
        (get_or paths i d).path.now before after
        → RefusesPaths may_open may_refuse remaining contents messages options prices Shows (WritesEach may_not_write first now)
        (map path_at paths) reporting out between err
        after Only Memory
    first_judged stops = record {
      only = refl;
      memory = refl;
      made = h.made;
      shows = record {
        begins = record {
          count = i;
          between = before;
          judges = rw (length-map paths path_at, take-map path_at i paths) h.judges;
          begins = inr ((get_or paths i d).path.now, next_there, rw (length-map paths path_at, next_number) stops.named);
        };
        shows = h.shows;
        wrote = subst (λ (known : Option (List Text)). WritesEach may_not_write first known h.made.attempts) (wrote_none known now stops.wrote) h.wrote;
      };
      sends = h.sends;
    } where
      next_number : suc i ≡ i + 1
      next_number = omega arith

      next_there : slice_get (map path_at paths) i ≡ Some (get_or paths i d).path.now
      next_there = slice_get-map path_at paths i ∙ ap (option_map path_at) (slice_get-get_or paths i d l)

    module _ (more : C) (status : ℕ) (text : List ℕ)
        (a : AddsPath Has Shows (WritesEach may_not_write known now) may_open may_refuse remaining options prices messages reporting (length paths) (i + 1)
        (get_or paths i d).path.now kept more before after status text) where
      added : AddsPath Has Shows (WritesEach may_not_write known now) may_open may_refuse remaining options prices messages reporting (length paths)
          (length (map path_at (take i paths)) + 1) (get_or paths i d).path.now kept more before after status text
      added = rw (so_many paths i l) a

      pub path_more : (out_after : Watched W) (all last : ℕ) → SendsNext contents sent text between out_after (Ok all) → last ≡ max greatest status
          → HasJudged Has Shows (WritesEach may_not_write first now) may_open may_refuse remaining options prices contents messages reporting (length paths)
          (map path_at (take (i + 1) paths)) more out out_after err after last all
      path_more out_after all last sends is =
          rw is (rw (map_more path_at paths i d l) (judged_more Has Shows first may_open may_refuse remaining options prices contents messages reporting
          (length paths) out err known now (map path_at (take i paths)) kept more greatest sent between before after
          (get_or paths i d).path.now status text h added out_after all sends))

      -- the output failed
      pub path_unsent : (out_after : Watched W) (fault : RunFault) → SendsNext contents sent text between out_after (Err fault)
          → EndsOnPaths may_open may_refuse remaining contents messages options prices Shows (WritesEach may_not_write first now)
          (map path_at paths) reporting out out_after
          err after fault
      path_unsent out_after (Sent fault) sends =
          failed_more Has Shows first may_open may_refuse remaining options prices contents messages reporting
          (length paths) out err known now (map path_at (take i paths)) kept more greatest sent between before after
          (get_or paths i d).path.now status text h added (map path_at paths) (sym (length-map paths path_at))
          (rw (so_many paths i l) (take-map path_at (i + 1) paths ∙ map_more path_at paths i d l)) out_after fault sends
      path_unsent out_after fault sends = absurd sends

module _ {C F W E : Type 0} (Has : C → List (List ℕ × Judgement) → Type 0) (Shows : List (List ℕ × Judgement) → List ℕ → List Attempt → Type 0)
    (Wrote : List Attempt → Type 0) (may_open : List ℕ → F → Type 0) (may_refuse : List ℕ → Unopened → Type 0)
    (remaining : F → Option (List ℕ)) (options : Option SearchOptions) (prices : Option PriceRule) (contents : W → Option (List ℕ))
    (messages : E → Option (List ℕ)) (reporting : Reporting) (paths : List (List ℕ)) (kept : C) (out out_after : Watched W) (err err_after : Watched E) where
  -- the run ended with this fault
  pub all_ended : (fault : RunFault)
      → EndsOnPaths may_open may_refuse remaining contents messages options prices Shows Wrote paths reporting out out_after err err_after fault
      → (answer : Result Judged RunFault) → IsErrAnd answer (λ reported. reported ≡ fault)
      → JudgesAllAs Has Shows Wrote may_open may_refuse remaining options prices contents messages reporting paths kept out out_after err err_after answer
  all_ended fault ends (Ok judged) is = absurd is
  all_ended fault ends (Err reported) is = rw is ends

-- ---- statuses

pub fault_above : (fault : RunFault) → 4 ≤ status_of_fault fault → (answer : Result Judged RunFault) → IsErrAnd answer (λ reported. reported ≡ fault)
    → IsErrAnd answer (λ reported. 4 ≤ status_of_fault reported)
fault_above fault above (Ok judged) is = absurd is
fault_above fault above (Err reported) is = rw is above

pub run_above : (fault : RunFault) → 4 ≤ status_of_fault fault → (answer : Result ℕ RunFault) → IsErrAnd answer (λ reported. reported ≡ fault)
    → 4 ≤ status_of_run answer
run_above fault above (Ok status) is = absurd is
run_above fault above (Err reported) is = rw is above

pub sent_status : {W : Type 0} (contents : W → Option (List ℕ)) (sent : ℕ) (text : List ℕ) (old new : Watched W) (fault : RunFault)
    → SendsNext contents sent text old new (Err fault) → 4 ≤ status_of_fault fault
sent_status contents sent text old new (Sent fault) sends = omega arith
sent_status contents sent text old new fault sends = absurd sends
