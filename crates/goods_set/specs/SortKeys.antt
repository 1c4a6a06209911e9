-- The sort key of a list of goods. It has its size and its first three goods, 16 bits each, the size highest. The
-- longest lists have no goods in it.
use Rattle.std.specs.Prelude.{ℕ, ◌+◌, ◌*◌, ◌^◌, List, length, get_or, cond, nat_lt}

-- the first three goods as one number
unfoldable pub first_goods : List ℕ → ℕ
first_goods xs = get_or xs 0 0 * 2 ^ 32 + get_or xs 1 0 * 2 ^ 16 + get_or xs 2 0

-- a number for a bundle: different keys have the order of their bundles
--
-- It has the size and the first three goods.
unfoldable pub sort_key_of : List ℕ → ℕ
sort_key_of xs = cond (nat_lt (length xs) 65535) (length xs * 2 ^ 48 + first_goods xs) (65535 * 2 ^ 48)
