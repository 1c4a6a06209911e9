-- If a file misses none of the goods of a request, all are below its count of goods.
use Rattle.commands.proofs.Common.{◌≡◌, ℕ, ◌<◌, List, None, arith, All, position_or_len, find_at, fails_before_first, slice_get-get_or, missing_good, nat_le}

pub below_none_missing : (count : ℕ) (goods : List ℕ) → missing_good count goods ≡ None → All (λ g. g < count) goods
below_none_missing count goods h = λ k d l.
    let first = position_or_len (λ g. nat_le count g) goods in
    grind (arith, find_at (λ g. nat_le count g) goods, slice_get-get_or goods first d, fails_before_first (λ g. nat_le count g) goods k d)
