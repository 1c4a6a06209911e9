-- The rows of two folders. Each path is judged, reported and printed behind those before it, and its files are opened.
use Rattle.cats_cmd.proofs.Common.{◌≡◌, ◌==◌, ℕ, ◌≤◌, ◌<◌, ◌+◌, List, [], ◌∷◌, ◌++◌, length, map, max, take, refl, sym, ap, ◌∙◌, subst, arith, inl, inr, ◌⊎◌}
use Rattle.cats_cmd.proofs.Common.{cond}
use Rattle.cats_cmd.proofs.Common.{Bool, true, false, Result, Ok, Err, Option, PricedGives, PricedRefuses, Answer, RunFault, NotOpened, Only, Refused, Sent}
use Rattle.cats_cmd.proofs.Common.{Memory, Watched, Unopened, PlainRequest, SendsNext, SendsPart, SendsWhole, IsErrAnd, bytes_counted, append_assoc, append-nil}
use Rattle.cats_cmd.proofs.Common.{AllByRecursion, map-append, length-append, fold_push, Opening, Opens, in_way, openings_of, paths_of}
use Rattle.cats_cmd.proofs.Common.{Vec, Global, get_or, get_or-map, length-map, take-map}
use Rattle.cats_cmd.proofs.JudgingPaths.{all_push, counted_then, sent_part, sent_then}
use Rattle.cats_cmd.proofs.Opening.{opens_none, openings_more}
use Rattle.cats_cmd.specs.ComparedFolders.{ArePathsBelow, ComparedPath, FoundFolders, JudgesRow, JudgesRows, OpensRows, ReportsRow, ReportsRows, RunsBelow}
use Rattle.cats_cmd.specs.ComparedFolders.{RunsOnRows, compared_header, compared_table, opened_at, row_of, status_of_rows, status_of_verdict, verdict_of}
use Rattle.cats_cmd.specs.Internal.Comparing.{AddsRow, HasCompared}
use Rattle.cats_cmd.specs.Stores.{path_in}
use Rattle.cats_cmd.specs.declared.compare_folders.PathVerdict.{PathVerdict}
use Rattle.cats_cmd.specs.declared.compare_folders.PathVerdict.TheVariants.{Same, Different}
use Rattle.cats_cmd.specs.declared.priced_input.PricedInput.{PricedInput}
use Rattle.cats_cmd.specs.declared.source.Way.TheVariants.{Regular}
use Rattle.canon.specs.declared.which.Which.TheVariants.{First}
use Rattle.commands.specs.Pairs.{Compares}
use Rattle.bid_file.specs.Files.{PlainFile}
use Rattle.cats_text.specs.declared.read_fault.ReadFault.{ReadFault}
use Rattle.std.proofs.lemmas.Grind.{flat_map-append}
use Rattle.std.proofs.lemmas.List.{map_more}
use Rattle.std.specs.List.{Contains, flat_map}
use Rattle.valuation.specs.declared.search.options.SearchOptions.{SearchOptions}

-- both files were opened if `compare` answered
module _ {I J : Type 0} (gives_first : I → I → PlainFile → Type 0) (refuses_first : I → I → ReadFault → Type 0)
    (gives_second : J → J → PlainFile → Type 0) (refuses_second : J → J → ReadFault → Type 0) (options : SearchOptions) (first second : List ℕ)
    (one one_after : I) (other other_after : J) where
  pub both_opened : (answer : Result Answer RunFault)
      → Compares gives_first refuses_first gives_second refuses_second options one one_after other other_after answer
      → opened_at first second (verdict_of answer) ≡ first ∷ second ∷ []
  both_opened (Ok answer) made = elim (answer.status == 0) as (λ b. opened_at first second (cond b Same Different) ≡ first ∷ second ∷ []) [
    | true ↦ refl
    | false ↦ refl
  ]
  both_opened (Err (NotOpened First why)) fails = absurd fails
  both_opened (Err fault) fails = refl

-- ---- one row more

lines_push : (all : Bool) (rows : List ComparedPath) (row : ComparedPath) (text : List ℕ) → text ≡ row_of all row.path row.verdict
    → compared_table all rows ++ text ≡ compared_table all (rows ++ row ∷ [])
lines_push all rows row text is =
    let line = λ (r : ComparedPath). row_of all r.path r.verdict in
    append_assoc compared_header (flat_map line rows) text
    ∙ ap (λ (lines : List ℕ). compared_header ++ lines) (ap (λ (t : List ℕ). flat_map line rows ++ t) (is ∙ sym (append-nil (line row)))
    ∙ sym (flat_map-append line rows (row ∷ [])))

nothing_before : (n : ℕ) → 0 + n ≡ n
nothing_before n = omega arith

all_then : {X : Type 0} (P : X → Type 0) (xs ys : List X) → AllByRecursion P xs → AllByRecursion P ys → AllByRecursion P (xs ++ ys)
all_then P [] ys first then = then
all_then P (x ∷ xs) ys first then = (first.0, all_then P xs ys first.1 then)

module _ {F W E : Type 0} (may_open : List ℕ → F → Type 0) (may_refuse : List ℕ → Unopened → Type 0) (remaining : F → Option (List ℕ))
    (request : PlainRequest) (folders : FoundFolders) (contents : W → Option (List ℕ)) (messages : E → Option (List ℕ)) (out : Watched W)
    (err : Watched E) where
  abbrev Compared : List (List ℕ) → Watched W → Watched E → ℕ → ℕ → Type 0
  Compared paths out_after err_after greatest sent =
      HasCompared may_open may_refuse remaining request folders contents messages paths out out_after err err_after greatest sent

  reports_push : (rows : List ComparedPath) (row : ComparedPath) (a b c : Watched E)
      → ReportsRows may_open may_refuse remaining request folders messages rows a b
      → ReportsRow may_open may_refuse remaining request folders messages row b c
      → ReportsRows may_open may_refuse remaining request folders messages (rows ++ row ∷ []) a c
  reports_push [] row a b c before now =
      (c, subst (λ (e : Watched E). ReportsRow may_open may_refuse remaining request folders messages row e c) before now, refl)
  reports_push (r ∷ rows) row a b c before now = (before.0, before.1, reports_push rows row before.0 b c before.2 now)

  -- the header was sent
  pub begun : (text : List ℕ) (out_after : Watched W) (sent : ℕ) → text ≡ compared_header → SendsNext contents 0 text out out_after (Ok sent)
      → Compared [] out_after err 0 sent
  begun text out_after sent is sends = record {
    rows = [];
    judges = record { of_paths = refl; each = tt; reports = refl };
    sends = rw is at sends.1;
    is_sent = rw is at sends.0;
    is_greatest = refl;
  }

  -- the output failed in it
  pub head_unsent : (paths : List (List ℕ)) (text : List ℕ) (out_after : Watched W) (fault : RunFault) → text ≡ compared_header
      → SendsNext contents 0 text out out_after (Err fault)
      → RunsOnRows may_open may_refuse remaining request folders messages contents paths out out_after err err (Err fault)
  head_unsent paths text out_after (Sent fault) is sends = record {
    rows = [];
    judges = record { count = 0; judges = record { of_paths = refl; each = tt; reports = refl } };
    count = sends.0;
    is_counted = sends.1 ∙ ap bytes_counted (nothing_before sends.0);
    sends = rw is at sends.2;
  }
  head_unsent paths text out_after fault is sends = absurd sends

  -- all were judged
  pub all_compared : (paths : List (List ℕ)) (out_after : Watched W) (err_after : Watched E) (greatest sent : ℕ)
      → Compared paths out_after err_after greatest sent
      → RunsOnRows may_open may_refuse remaining request folders messages contents paths out out_after err err_after (Ok greatest)
  all_compared paths out_after err_after greatest sent h =
      record { rows = h.rows; judges = h.judges; sends = h.sends; is_status = h.is_greatest }

  -- memory was refused at the next
  pub stopped : (all paths : List (List ℕ)) (i : ℕ) → take i all ≡ paths → (out_after : Watched W) (err_after : Watched E) (greatest sent : ℕ)
      → Compared paths out_after err_after greatest sent
      → RunsOnRows may_open may_refuse remaining request folders messages contents all out out_after err err_after (Err (Refused Only Memory))
  stopped all paths i is out_after err_after greatest sent h =
      (refl, refl, record { rows = h.rows; judges = record { count = i; judges = rw is h.judges }; sends = h.sends })

  module _ (paths : List (List ℕ)) (greatest sent : ℕ) (between : Watched W) (before after : Watched E) (path : List ℕ) (status : ℕ) (text : List ℕ)
      (h : Compared paths between before greatest sent)
      (a : AddsRow may_open may_refuse remaining request folders messages path before after status text) where
    abbrev rows_more : List ComparedPath
    rows_more = h.rows ++ a.row ∷ []

    table_more : compared_table request.all h.rows ++ text ≡ compared_table request.all rows_more
    table_more = lines_push request.all h.rows a.row text a.is_text

    judges_more : JudgesRows may_open may_refuse remaining request folders messages (paths ++ path ∷ []) err after rows_more
    judges_more = record {
      of_paths = map-append (λ (r : ComparedPath). r.path) h.rows (a.row ∷ []) ∙ ap (λ (ps : List (List ℕ)). ps ++ a.row.path ∷ []) h.judges.of_paths
          ∙ ap (λ (p : List ℕ). paths ++ p ∷ []) a.is_path;
      each = all_push (JudgesRow may_open may_refuse remaining request folders) h.rows a.row h.judges.each a.judges;
      reports = reports_push h.rows a.row err before after h.judges.reports a.reports;
    }

    pub row_more : (out_after : Watched W) (all : ℕ) → SendsNext contents sent text between out_after (Ok all)
        → Compared (paths ++ path ∷ []) out_after after (max greatest status) all
    row_more out_after all sends = record {
      rows = rows_more;
      judges = judges_more;
      sends = subst (λ (t : List ℕ). SendsWhole contents out out_after t) table_more
          (sent_then contents (compared_table request.all h.rows) text out between out_after h.sends sends.1);
      is_sent = sends.0 ∙ ap (λ (n : ℕ). bytes_counted (n + length text)) h.is_sent
          ∙ counted_then (length (compared_table request.all h.rows)) (length text)
          ∙ ap bytes_counted (sym (length-append (compared_table request.all h.rows) text) ∙ ap (length {A = ℕ}) table_more);
      is_greatest = ap (λ (g : ℕ). max g status) h.is_greatest ∙ ap (max (status_of_rows h.rows)) a.is_status
          ∙ sym (fold_push (λ (g : ℕ) (r : ComparedPath). max g (status_of_verdict r.lost r.verdict)) 0 h.rows a.row);
    }

    -- the output failed in it
    pub row_unsent : (all : List (List ℕ)) (i : ℕ) → take i all ≡ paths ++ path ∷ [] → (out_after : Watched W) (fault : RunFault)
        → SendsNext contents sent text between out_after (Err fault)
        → RunsOnRows may_open may_refuse remaining request folders messages contents all out out_after err after (Err fault)
    row_unsent all i is out_after (Sent fault) sends = record {
      rows = rows_more;
      judges = record { count = i; judges = rw is judges_more };
      count = length (compared_table request.all h.rows) + sends.0;
      is_counted = sends.1 ∙ ap (λ (n : ℕ). bytes_counted (n + sends.0)) h.is_sent ∙ counted_then (length (compared_table request.all h.rows)) sends.0;
      sends = subst (λ (t : List ℕ). SendsPart contents out out_after t (length (compared_table request.all h.rows) + sends.0)) table_more
          (sent_part contents (compared_table request.all h.rows) text sends.0 out between out_after h.sends sends.2);
    }
    row_unsent all i is out_after fault sends = absurd sends

  -- ---- the run

  -- the run ended with this fault
  pub ended : (paths : List (List ℕ)) → ArePathsBelow folders paths → (out_after : Watched W) (err_after : Watched E) (fault : RunFault)
      → RunsOnRows may_open may_refuse remaining request folders messages contents paths out out_after err err_after (Err fault)
      → (answer : Result ℕ RunFault) → IsErrAnd answer (λ reported. reported ≡ fault)
      → RunsBelow may_open may_refuse remaining contents messages request folders out out_after err err_after answer
  ended paths are out_after err_after fault ran (Ok status) is = absurd is
  ended paths are out_after err_after fault ran (Err reported) is = inl (record { paths = paths; are = are; runs = rw is ran })

-- ---- what is opened

module _ {S H F : Type 0} (content_of : S → H) (opened : S → Option (List Opening))
    (may_open : H → List ℕ → F → Type 0) (may_refuse : H → List ℕ → Unopened → Type 0) (remaining : F → Option (List ℕ))
    (request : PlainRequest) (folders : FoundFolders) where
  abbrev OpensSome : List (List ℕ) → S → S → Type 0
  OpensSome paths old new = OpensRows content_of opened may_open may_refuse remaining request folders paths old new

  pub opens_no_rows : (source : S) → OpensSome [] source source
  opens_no_rows source = record { rows = []; of_paths = refl; each = tt; opens = opens_none content_of opened source }

  -- a row, for which these files were opened
  pub row_opened : (old new : S) (row : ComparedPath)
      → JudgesRow (may_open (content_of old)) (may_refuse (content_of old)) remaining request folders row
      → Opens content_of opened old new
      (openings_of (in_way Regular (opened_at (path_in folders.left.path row.path) (path_in folders.right.path row.path) row.verdict)))
      → OpensSome (row.path ∷ []) old new
  row_opened old new row judges opens =
      let files = opened_at (path_in folders.left.path row.path) (path_in folders.right.path row.path) row.verdict in
      record {
        rows = row ∷ [];
        of_paths = refl;
        each = (judges, tt);
        opens = subst (λ (fs : List (List ℕ)). Opens content_of opened old new (openings_of (in_way Regular fs))) (sym (append-nil files)) opens;
      }

  pub opens_row : (paths : List (List ℕ)) (path : List ℕ) (old between new : S) → OpensSome paths old between → OpensSome (path ∷ []) between new
      → OpensSome (paths ++ path ∷ []) old new
  opens_row paths path old between new first then =
      let files = λ (r : ComparedPath). opened_at (path_in folders.left.path r.path) (path_in folders.right.path r.path) r.verdict in
      let one = flat_map files first.rows in
      let other = flat_map files then.rows in
      record {
        rows = first.rows ++ then.rows;
        of_paths = map-append (λ (r : ComparedPath). r.path) first.rows then.rows
            ∙ ap (λ (ps : List (List ℕ)). ps ++ map (λ (r : ComparedPath). r.path) then.rows) first.of_paths
            ∙ ap (λ (ps : List (List ℕ)). paths ++ ps) then.of_paths;
        each = all_then (JudgesRow (may_open (content_of old)) (may_refuse (content_of old)) remaining request folders) first.rows then.rows first.each
            (rw first.opens.stays at then.each);
        opens = rw (
          flat_map-append files first.rows then.rows,
          map-append {B = Opening} (λ p. (p, Regular)) one other,
        )
            (openings_more content_of opened old between new (in_way Regular one) (in_way Regular other) first.opens then.opens);
      }

-- ---- as the code has them

abbrev items_of : Vec ℕ Global → List ℕ
items_of p = p.items

one_more : (paths : List (Vec ℕ Global)) (i : ℕ) (d : Vec ℕ Global) → i < length paths
    → paths_of (take (i + 1) paths) ≡ paths_of (take i paths) ++ (get_or paths i d).items ∷ []
one_more paths i d l = map_more items_of paths i d l

pub first_of : (paths : List (Vec ℕ Global)) (i : ℕ) → take i (paths_of paths) ≡ paths_of (take i paths)
first_of paths i = take-map items_of i paths

pub next_there : (paths : List (Vec ℕ Global)) (i : ℕ) (d : Vec ℕ Global) → i < length paths → Contains (paths_of paths) (get_or paths i d).items
next_there paths i d l = (i, rw (length-map paths items_of) l, get_or-map items_of paths i d (get_or paths i d).items l)

module _ {F W E : Type 0} (may_open : List ℕ → F → Type 0) (may_refuse : List ℕ → Unopened → Type 0) (remaining : F → Option (List ℕ))
    (request : PlainRequest) (folders : FoundFolders) (contents : W → Option (List ℕ)) (messages : E → Option (List ℕ)) (out : Watched W)
    (err : Watched E) (paths : List (Vec ℕ Global)) (i : ℕ) (d : Vec ℕ Global) (l : i < length paths) (greatest sent : ℕ) (between : Watched W)
    (before after : Watched E) (path : List ℕ) (same : path ≡ (get_or paths i d).items) (status : ℕ) (text : List ℕ)
    (h : HasCompared may_open may_refuse remaining request folders contents messages (paths_of (take i paths)) out between err before greatest sent)
    (a : AddsRow may_open may_refuse remaining request folders messages path before after status text) where
  pub next_row : (out_after : Watched W) (all last : ℕ) → SendsNext contents sent text between out_after (Ok all) → last ≡ max greatest status
      → HasCompared may_open may_refuse remaining request folders contents messages (paths_of (take (i + 1) paths)) out out_after err after last all
  next_row out_after all last sends is =
      rw is (rw (one_more paths i d l) (row_more may_open may_refuse remaining request folders contents messages out err (paths_of (take i paths))
      greatest sent between before after (get_or paths i d).items status text h (rw same at a) out_after all sends))

  pub next_unsent : (out_after : Watched W) (fault : RunFault) → SendsNext contents sent text between out_after (Err fault)
      → RunsOnRows may_open may_refuse remaining request folders messages contents (paths_of paths) out out_after err after (Err fault)
  next_unsent out_after fault sends =
      row_unsent may_open may_refuse remaining request folders contents messages out err (paths_of (take i paths))
      greatest sent between before after (get_or paths i d).items status text h (rw same at a) (paths_of paths) (i + 1)
      (first_of paths (i + 1) ∙ one_more paths i d l) out_after fault sends

module _ {S H F : Type 0} (content_of : S → H) (opened : S → Option (List Opening))
    (may_open : H → List ℕ → F → Type 0) (may_refuse : H → List ℕ → Unopened → Type 0) (remaining : F → Option (List ℕ))
    (request : PlainRequest) (folders : FoundFolders) (paths : List (Vec ℕ Global)) (i : ℕ) (d : Vec ℕ Global) (l : i < length paths)
    (path : List ℕ) (same : path ≡ (get_or paths i d).items) (old between new : S)
    (first : OpensRows content_of opened may_open may_refuse remaining request folders (paths_of (take i paths)) old between) where
  abbrev OpensNext : Type 0
  OpensNext = OpensRows content_of opened may_open may_refuse remaining request folders (path ∷ []) between new

  abbrev OpensMore : Type 0
  OpensMore = OpensRows content_of opened may_open may_refuse remaining request folders (paths_of (take (i + 1) paths)) old new

  opens_more : OpensNext → OpensMore
  opens_more then = rw (one_more paths i d l) (opens_row content_of opened may_open may_refuse remaining request folders (paths_of (take i paths))
      (get_or paths i d).items old between new first (rw same at then))

  pub next_opens : OpensNext ⊎ ((false ≡ true) × (new ≡ between)) → OpensMore
  next_opens (inl then) = opens_more then
  next_opens (inr none) = absurd (cc)

  pub next_stopped : {P : Type 0} → OpensNext ⊎ (P × (new ≡ between))
      → (count : ℕ) × OpensRows content_of opened may_open may_refuse remaining request folders (take count (paths_of paths)) old new
  next_stopped (inl then) = (i + 1, rw (first_of paths (i + 1)) (opens_more then))
  next_stopped (inr none) = (i, rw (first_of paths i, none.1) first)
