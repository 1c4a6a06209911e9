-- CRs, each decided by the byte after it. A CR before an LF is a space, and a CR at the end is not yet decided.
use Rattle.std.specs.Prelude.{ℕ, ◌==◌, Bool, true, false, if◌then◌else◌, List, [], ◌∷◌}

abbrev pub return_byte : ℕ → ℕ
return_byte next = if next == 10 then 32 else 13

-- a byte before others that are decided so
abbrev pub settle : ℕ → List ℕ → List ℕ → List ℕ
settle b [] decided = if b == 13 then [] else b ∷ decided
settle b (c ∷ cs) decided = (if b == 13 then return_byte c else b) ∷ decided

abbrev pub settled : List ℕ → List ℕ
settled [] = []
settled (b ∷ bs) = settle b bs (settled bs)

-- whether the last byte is a CR, which waits
abbrev pub waits : List ℕ → Bool
waits [] = false
waits (b ∷ []) = b == 13
waits (b ∷ c ∷ cs) = waits (c ∷ cs)

-- the bytes behind what waits
abbrev pub carried : Bool → List ℕ → List ℕ
carried true bytes = 13 ∷ bytes
carried false bytes = bytes
