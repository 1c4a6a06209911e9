-- Laws of bundles in the form in which the trait's laws cite them: from what is known of every set.
use Rattle.std.proofs.Common.{◌≡◌, ℕ, ◌≤◌, ◌⊎◌, List, Less, lit≤}
use Rattle.goods_set.specs.Bundles.{IsBundle, IsInside}
use Rattle.goods_set.specs.Lemmas.Members.{inside_antisymm}
use Rattle.goods_set.specs.Orders.{bundle_cmp}
use Rattle.goods_set.specs.Lemmas.Orders.{inside_ordered}

pub inside_antisymm_law : (G : ℕ) (xs ys : List ℕ) → IsBundle G xs → IsBundle G ys → IsInside xs ys → IsInside ys xs → xs ≡ ys
inside_antisymm_law G xs ys a b = inside_antisymm xs ys a.0 b.0

pub inside_ordered_law : (G : ℕ) (xs ys : List ℕ) → IsBundle G xs → IsBundle G ys → IsInside xs ys → (bundle_cmp xs ys ≡ Less) ⊎ (xs ≡ ys)
inside_ordered_law G xs ys a b = inside_ordered xs ys a.0 b.0

-- the bound on goods of a list
pub list_cap_fits : 65536 ≤ 65536
list_cap_fits = lit≤ tt
