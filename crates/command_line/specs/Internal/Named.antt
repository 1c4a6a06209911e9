-- The numbers that were named so far, each once.
use Rattle.std.specs.Prelude.{◌≡◌, ◌==◌, ◌++◌, ◌<◌, ℕ, Bool, false, List, [], ◌∷◌, fold, get_or, length, if◌then◌else◌}
use Rattle.std.specs.List.{list_any}

-- whether a number is among these
abbrev pub is_among : List ℕ → ℕ → Bool
is_among numbers n = list_any (λ m. m == n) numbers

-- the numbers with one more behind them, if it is not among them
abbrev pub with_named : List ℕ → ℕ → List ℕ
with_named numbers n = if is_among numbers n then numbers else numbers ++ n ∷ []

-- the numbers with all of these
abbrev pub with_all : List ℕ → List ℕ → List ℕ
with_all numbers more = fold with_named numbers more

-- of each number that may be named, whether it is among these
pub record AreMarked (numbers : List ℕ) (marks : List Bool) : Type 0 where
  pub all : length marks ≡ 65536
  pub each : (n : ℕ) → n < 65536 → get_or marks n false ≡ is_among numbers n
