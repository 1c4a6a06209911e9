-- What the words of a line request. A word that does not begin with a hyphen is taken as it is after `--` (`PlainWords`), and after `--` the walk of
-- `clap` is computed with paths that are not known, for all commands of a list at once.
use Rattle.command_line.proofs.Common.{◌≡◌, ◌∙◌, ◌++◌, Bool, List, [], ◌∷◌, Option, None, Some, true, false, ap, ap₂, get_or, map, refl, sym, ◌||◌, All, Err}
use Rattle.command_line.proofs.Common.{filter, find, fold, unwrap_or, if◌then◌else◌, option_map, get_or-map, option_map_or, result_ok, check_fault}
use Rattle.command_line.proofs.Common.{defaults_fault, level_fault, settle_fault, Kinds, or_else, Shape, built, label_of, new_shape, rows_at, Held, Text}
use Rattle.command_line.proofs.Common.{Walk, answers_to, finished, idle, nothing_held, settled, walk_from, walked, ValueValidation, PlainRequest, Misuse}
use Rattle.command_line.proofs.Common.{SignedNumber, UnboundedTotal, NoFiles, cats, if_taken, request_of, requested_by, requested_in, paths_for}
use Rattle.command_line.proofs.Common.{begins_with_hyphen, EachRequests, Task, TaskRow, TASKS, name_of, ℕ, begins_with_sign, is_unsigned_in, unless_signed}
use Rattle.command_line.proofs.Common.{usual}
use Rattle.command_line.proofs.PlainWords.{ArePlain, at, hyphens, same_after}

-- what computes alike for all rows is the same of each
pub all_same : {X : Type 0} (f g : TaskRow → X) (rows : List TaskRow) → map f rows ≡ map g rows → All (λ row. f row ≡ g row) rows
all_same {X} f g rows same k d lt =
    sym (get_or-map f rows k d (f d) lt) ∙ ap (λ (xs : List X). get_or xs k (f d)) same ∙ get_or-map g rows k d (f d) lt

-- a command as `clap` builds it
abbrev pub shape_named : Text → Shape
shape_named name = unwrap_or (find (λ s. answers_to name (label_of s)) (built cats).subs) (new_shape [])

-- what the words after the name of a command request
abbrev pub request_by : Option Shape → List Text → Option PlainRequest
request_by found words = if_taken (or_else (option_map_or (λ s. level_fault s [] nothing_held words false []) found []) [])
    (result_ok (option_map_or (λ p. requested_in p.0 p.1) (option_map (λ s. rows_at s words) found) (Err NoFiles)))

abbrev pub request_after : Text → List Text → Option PlainRequest
request_after name words = request_by (find (λ s. answers_to name (label_of s)) (built cats).subs) words

-- the same, by how the walk over them ends
abbrev pub request_at : Shape → Kinds → Held → Option PlainRequest
request_at s kinds end = if_taken (or_else (or_else kinds (or_else (settle_fault s.rules s.args_override_self end)
    (or_else (defaults_fault (settled s.rules end).rows s.rules) (check_fault s (finished s.rules end) false)))) [])
    (result_ok (requested_in s.name (finished s.rules end)))

abbrev pub walk_over : Text → List Text → Walk
walk_over name words = fold (walked (shape_named name).rules []) (walk_from nothing_held) words

-- the line of a command with paths behind other words
line : (name : Text) (words paths : List Text) → ArePlain paths → find (λ s. answers_to name (label_of s)) (built cats).subs ≡ Some (shape_named name)
    → walk_over name words ≡ at (walk_over name words).held idle (walk_over name words).position false
    → request_after name (words ++ paths) ≡ request_after name (words ++ hyphens ∷ paths)
line name words paths plain found is =
    let same = same_after (shape_named name) paths plain words (walk_from nothing_held) is in
    rw found (ap₂ (request_at (shape_named name)) same.1 same.0)

-- ---- all commands of a list

abbrev Computed : Type 0
Computed = Option Shape × Walk × Option PlainRequest × Option PlainRequest

module _ (words : List Text) (request : Task → List Text → Option PlainRequest) (program first second : Text) where
  abbrev pub computed : TaskRow → Computed
  computed row = (
    find (λ s. answers_to (name_of row.task) (label_of s)) (built cats).subs,
    walk_over (name_of row.task) words,
    request_of (program ∷ name_of row.task ∷ words ++ paths_for row first second),
    request_after (name_of row.task) (words ++ hyphens ∷ paths_for row first second),
  )

  abbrev pub expected : TaskRow → Computed
  expected row = (
    Some (shape_named (name_of row.task)),
    at (walk_over (name_of row.task) words).held idle (walk_over (name_of row.task) words).position false,
    request_after (name_of row.task) (words ++ paths_for row first second),
    request row.task (paths_for row first second),
  )

are_plain : (first second : Text) (is_one : Bool) → begins_with_hyphen first ≡ false → begins_with_hyphen second ≡ false
    → ArePlain (if is_one then first ∷ [] else first ∷ second ∷ [])
are_plain first second true one other = (one, tt)
are_plain first second false one other = (one, (other, tt))

module _ (test : TaskRow → Bool) (words : List Text) where
  -- the lines of these commands, with `--` before their paths, are computed
  abbrev pub IsComputed : (Task → List Text → Option PlainRequest) → Type 0
  IsComputed found = (program first second : Text)
      → map (computed words found program first second) (filter test TASKS) ≡ map (expected words found program first second) (filter test TASKS)

  -- the answer may be another form of what is found
  each_as : (found request : Task → List Text → Option PlainRequest) → IsComputed found
      → ((task : Task) (paths : List Text) → found task paths ≡ request task paths) → EachRequests test words request
  each_as found request same alike = record {
    each = λ program first second one other k d lt.
        let row = get_or (filter test TASKS) k d in
        let paths = paths_for row first second in
        let is = all_same (computed words found program first second) (expected words found program first second) _ (same program first second) k d lt in
        let idle = ap (λ (c : Computed). c.1) is in
        ap (λ (c : Computed). c.2) is ∙ line (name_of row.task) words paths (are_plain first second _ one other) (ap (λ (c : Computed). c.0) is) idle
        ∙ ap (λ (c : Computed). c.3) is ∙ alike row.task paths;
  }

  pub each : (request : Task → List Text → Option PlainRequest) → IsComputed request → EachRequests test words request
  each request same = each_as request request same (λ task paths. refl)

-- ---- limits, whose text is not known

-- the answer to a line whose one fault may be the value of its option, by whether that is taken, and whether it has a sign
abbrev pub limited : Bool → Bool → Option Misuse → PlainRequest → Option PlainRequest
limited taken signed misuse request = if_taken (or_else (or_else (or_else (or_else (or_else (if taken then [] else ValueValidation ∷ []) []) []) []) []) [])
    (result_ok (requested_by (if ((signed || false) || false) then Some SignedNumber else misuse) (Some request)))

limit_taken : (taken signed : Bool) (request : PlainRequest) → taken ≡ true → limited taken signed None request ≡ (if signed then None else Some request)
limit_taken true true request is = refl
limit_taken true false request is = refl
limit_taken false signed request is = cc

unbounded : (taken signed : Bool) (request : PlainRequest) → limited taken signed (Some UnboundedTotal) request ≡ None
unbounded true true request = refl
unbounded true false request = refl
unbounded false signed request = refl

module _ (test : TaskRow → Bool) (words : List Text) (most : ℕ) (text : Text) where
  -- what is computed of a line with this limit
  abbrev pub with_limit : Option Misuse → (Task → List Text → PlainRequest) → Task → List Text → Option PlainRequest
  with_limit misuse request task paths = limited (is_unsigned_in 1 most text) (begins_with_sign text) misuse (request task paths)

  pub each_limited : (request : Task → List Text → PlainRequest) → is_unsigned_in 1 most text ≡ true → IsComputed test words (with_limit None request)
      → EachRequests test words (λ task paths. unless_signed text (request task paths))
  each_limited request taken same = each_as test words (with_limit None request) _ same (λ task paths. limit_taken _ _ (request task paths) taken)

  pub each_unbounded : IsComputed test words (with_limit (Some UnboundedTotal) usual) → EachRequests test words (λ task paths. None)
  each_unbounded same = each_as test words (with_limit (Some UnboundedTotal) usual) _ same (λ task paths. unbounded _ _ (usual task paths))
