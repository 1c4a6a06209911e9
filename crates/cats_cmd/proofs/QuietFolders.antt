-- If prices are not rounded, and all files of two folders were compared, nothing was reported of them.
use Rattle.cats_cmd.proofs.Common.{◌≡◌, ℕ, ◌≤◌, List, [], ◌∷◌, max, fold, refl, sym, ◌∙◌, arith, Option, None, Bool, Result, Ok, Err, Answer, RunFault}
use Rattle.cats_cmd.proofs.Common.{NotOpened}
use Rattle.cats_cmd.proofs.Common.{inl, inr, ◌⊎◌, AllByRecursion, PricedGives, PricedRefuses, PriceRule, PlainRequest, Watched, Unopened, none_rounded}
use Rattle.cats_cmd.proofs.Common.{status_of_fault}
use Rattle.cats_cmd.proofs.PricedInputs.{none_given}
use Rattle.cats_cmd.proofs.Statuses.{fault_status_above}
use Rattle.cats_cmd.specs.Stores.{path_in}
use Rattle.cats_cmd.proofs.Common.{⊎_elim}
use Rattle.cats_cmd.specs.ComparedFolders.{ComparesUnopened}
use Rattle.cats_cmd.specs.ComparedFolders.{ComparedPath, ComparesOpened, FoundFolders, IsCompared, JudgesRow, ReportsRow, ReportsRows, status_of_rows}
use Rattle.cats_cmd.specs.ComparedFolders.{status_of_verdict, verdict_of}
use Rattle.cats_cmd.specs.declared.compare_folders.PathVerdict.{PathVerdict}
use Rattle.cats_cmd.specs.declared.compare_folders.PathVerdict.TheVariants.{Unjudged}
use Rattle.cats_cmd.specs.declared.priced_input.RoundedCount.{RoundedCount}
use Rattle.commands.specs.Pairs.{Compares}

abbrev Quiet : RoundedCount → RoundedCount → Type 0
Quiet one other = (one ≡ none_rounded) × (other ≡ none_rounded)

pub no_fault : {A : Type 0} (lost : Bool) (verdict : PathVerdict) (fault : RunFault) → verdict ≡ Unjudged fault → status_of_verdict lost verdict ≤ 1 → A
no_fault lost verdict fault is few =
    let least = fault_status_above fault in
    let most : status_of_fault fault ≤ 1 = rw is at few in
    absurd (omega (arith, least, most))

pub fold_least : (rows : List ComparedPath) (least : ℕ) → least ≤ fold (λ g r. max g (status_of_verdict r.lost r.verdict)) least rows
fold_least [] least = omega arith
fold_least (r ∷ rows) least =
    let more = fold_least rows (max least (status_of_verdict r.lost r.verdict)) in
    grind (arith, more)

module _ {F E : Type 0} (may_open : List ℕ → F → Type 0) (may_refuse : List ℕ → Unopened → Type 0) (remaining : F → Option (List ℕ))
    (request : PlainRequest) (folders : FoundFolders) (messages : E → Option (List ℕ)) (plain : request.prices ≡ None) where
  quiet_by : (first second : List ℕ) (verdict : PathVerdict) (one other : RoundedCount) (lost : Bool)
      (c : ComparesOpened may_open may_refuse remaining request first second verdict one other) (answer : Result Answer RunFault)
      → Compares (PricedGives remaining) (PricedRefuses remaining) (PricedGives remaining) (PricedRefuses remaining) request.options c.left c.left_after
      c.right c.right_after answer → verdict ≡ verdict_of answer → status_of_verdict lost verdict ≤ 1 → Quiet one other
  quiet_by first second verdict one other lost c (Ok answer) made is few = (
    c.counts.0 ∙ none_given remaining c.left c.left_after (c.left_opened.rule ∙ plain) made.given.0 made.gives.0.given,
    c.counts.1 ∙ none_given remaining c.right c.right_after (c.right_opened.rule ∙ plain) made.given.1 made.gives.1.given,
  )
  quiet_by first second verdict one other lost c (Err fault) fails is few = no_fault lost verdict fault is few

  quiet_row : (row : ComparedPath) → JudgesRow may_open may_refuse remaining request folders row → status_of_verdict row.lost row.verdict ≤ 1
      → Quiet row.left row.right
  quiet_row row (inr (inl alone)) few = alone.counts
  quiet_row row (inr (inr alone)) few = alone.counts
  quiet_row row (inl compared) few = quiet_compared row compared few
    where
      quiet_files : (row : ComparedPath) (first second : List ℕ)
          → ComparesOpened may_open may_refuse remaining request first second row.verdict row.left row.right
          → status_of_verdict row.lost row.verdict ≤ 1 → Quiet row.left row.right
      quiet_files row first second c few = quiet_by first second row.verdict row.left row.right row.lost c c.answer c.answers c.is_verdict few

      quiet_compared : (row : ComparedPath)
          → IsCompared may_open may_refuse remaining request folders (path_in folders.left.path row.path) (path_in folders.right.path row.path)
          row.verdict row.left row.right → status_of_verdict row.lost row.verdict ≤ 1 → Quiet row.left row.right
      quiet_compared row compared few = ⊎_elim
          (λ (c : ComparesOpened may_open may_refuse remaining request (path_in folders.left.path row.path) (path_in folders.right.path row.path)
          row.verdict row.left row.right). quiet_files row (path_in folders.left.path row.path) (path_in folders.right.path row.path) c few)
          (λ (u : ComparesUnopened may_open may_refuse remaining request (path_in folders.left.path row.path)
          (path_in folders.right.path row.path) row.verdict row.left row.right). u.counts) compared.compares

  quiet_from : (rows : List ComparedPath) (least : ℕ) (a b : Watched E)
      → AllByRecursion (JudgesRow may_open may_refuse remaining request folders) rows
      → fold (λ g r. max g (status_of_verdict r.lost r.verdict)) least rows ≤ 1
      → ReportsRows may_open may_refuse remaining request folders messages rows a b → b ≡ a
  quiet_from [] least a b each few reports = reports
  quiet_from (row ∷ rows) least a b each few reports =
      let more = fold_least rows (max least (status_of_verdict row.lost row.verdict)) in
      let one : status_of_verdict row.lost row.verdict ≤ 1 = grind (arith, more, few) in
      let quiet = quiet_row row each.0 one in
      let same : reports.0 ≡ a = rw (quiet.0, quiet.1) at reports.1.lines in
      quiet_from rows (max least (status_of_verdict row.lost row.verdict)) reports.0 b each.1 few reports.2 ∙ same

  pub quiet_rows : (rows : List ComparedPath) (a b : Watched E) → AllByRecursion (JudgesRow may_open may_refuse remaining request folders) rows
      → status_of_rows rows ≤ 1 → ReportsRows may_open may_refuse remaining request folders messages rows a b → b ≡ a
  quiet_rows rows a b each few reports = quiet_from rows 0 a b each few reports
