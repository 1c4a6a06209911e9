-- The text of the rows, from which the code sees whether there is one.
use Rattle.std.specs.Prelude.{ℕ, List, [], ◌∷◌}

-- a text in the place of an empty one
abbrev pub instead : List ℕ → List ℕ → List ℕ
instead [] other = other
instead (byte ∷ bytes) other = []
