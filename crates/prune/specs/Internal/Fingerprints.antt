-- The fingerprint of a bundle. Each of its goods marks one of 128 bits.
use Rattle.std.specs.Prelude.{ℕ, ◌≡◌, ◌+◌, ◌*◌, ◌/◌, ◌%◌, ◌==◌, nat_lt, cond, true, List}
use Rattle.std.specs.Int.{bit_at}
use Rattle.goods_set.specs.Bundles.{has_good}

-- another number below 65,536 for each good, by which near goods are far apart
abbrev pub mixed : ℕ → ℕ
mixed good = good * 40503 % 65536

-- the bit that a mixed good of one of 64 groups marks: of group 0 one of the highest 32, of 1 to 7 one of the 32 below,
-- and of the others one of the lowest 64
abbrev pub mark_of_mixed : ℕ → ℕ → ℕ
mark_of_mixed group spread = cond (group == 0) (96 + spread % 32) (cond (nat_lt group 8) (64 + spread % 32) spread)

-- the bit that a good marks
abbrev pub mark_of : ℕ → ℕ
mark_of good = mark_of_mixed (mixed good / 16 % 64) (mixed good / 1024)

-- those bits are set that a good marks, and no others
pub record AreMarks (goods : List ℕ) (bits : ℕ) : Type 0 where
  pub each : (good : ℕ) → has_good goods good ≡ true → bit_at bits (mark_of good) ≡ 1
  pub only : (bit : ℕ) → bit_at bits bit ≡ 1 → (good : ℕ) × (has_good goods good ≡ true) × (mark_of good ≡ bit)
