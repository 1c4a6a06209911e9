-- A total that lets one search more than before take all the steps that one may.
use Rattle.std.specs.Prelude.{◌≡◌, ◌+◌, ℕ, Option, Some, None}

-- no total leaves less than these do and the steps of one search more
abbrev pub IsWider : ℕ → Option ℕ → Option ℕ → Type 0
IsWider each total None = Unit {0}
IsWider each None (Some wider) = ⊥
IsWider each (Some total) (Some wider) = wider ≡ total + each
