-- A run on the files of a list that was read: it is the run on the paths in it, or memory was refused for these and no file was opened.
use Rattle.cats_cmd.proofs.Common.{◌≡◌, inl, ℕ, List, Option, Result, Ok, Err, Watched, Attempt, ReadsList, RunsOnList, paths_in, RunFault, Unopened}

module _ {F W E : Type 0} (may_open : List ℕ → F → Type 0) (may_refuse : List ℕ → Unopened → Type 0) (remaining : F → Option (List ℕ))
    (messages : E → Option (List ℕ)) (Wrote : List Attempt → Type 0)
    (Runs : List (List ℕ) → Watched W → Watched W → Watched E → Watched E → Result ℕ RunFault → Type 0)
    (list bytes : List ℕ) (reads : ReadsList may_open may_refuse remaining list bytes) where
  pub list_run : (paths : List (List ℕ)) → paths ≡ paths_in bytes → (out out_after : Watched W) (err err_after : Watched E) (answer : Result ℕ RunFault)
      → Runs paths out out_after err err_after answer
      → RunsOnList may_open may_refuse remaining messages Wrote Runs list out out_after err err_after answer
  list_run paths same out out_after err err_after (Ok status) runs = inl (record { bytes = bytes; reads = reads; runs = rw same at runs })
  list_run paths same out out_after err err_after (Err fault) runs = record { bytes = bytes; reads = reads; runs = rw same at runs }
