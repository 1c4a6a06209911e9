-- Bundles as words of 64 bits. The good g is bit g % 64 of word g / 64.
use Rattle.std.proofs.Common.{ℕ, ◌*◌, ◌/◌, ◌%◌, min, eqb, List, get_or}
use Rattle.std.specs.List.{filter, range_with_len}
use Rattle.std.specs.Int.{bit_at}

-- the bit of the good g
abbrev pub word_bit : List ℕ → ℕ → ℕ
word_bit ws g = bit_at (get_or ws (g / 64) 0) (g % 64)

-- the goods below `cap` whose bits are set
unfoldable pub word_goods : ℕ → List ℕ → List ℕ
word_goods cap ws = filter (λ g. eqb (word_bit ws g) 1) (range_with_len 0 cap)

-- how many goods n words of 64 bits hold, 65,536 at most
abbrev pub word_cap : ℕ → ℕ
word_cap n = min (64 * n) 65536
