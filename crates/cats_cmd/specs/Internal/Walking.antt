-- A walk through folders.
use Rattle.std.specs.Prelude.{ℕ, List}
use Rattle.std.specs.List.{All}
use Rattle.cats_cmd.specs.Folders.{BeginsWith}
use Rattle.cats_cmd.specs.declared.folder.Walk.{Walk}

-- all paths of a walk begin so
pub record WalksBelow (start : List ℕ) (walk : Walk) : Type 0 where
  pub folders : All (λ folder. BeginsWith start folder.items) walk.folders.items
  pub found : All (λ file. BeginsWith start file.items) walk.found.items

-- so they do after a step, if they did before it, and this path does
abbrev pub StaysBelow : List ℕ → Walk → Walk → Type 0
StaysBelow path old new = (start : List ℕ) → BeginsWith start path → WalksBelow start old → WalksBelow start new
