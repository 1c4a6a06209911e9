-- The order of bundles is total, and answers Equal only for equal lists; which of two bundles comes first.
use Rattle.std.proofs.Common.{rules, ◌≡◌, ℕ, ◌<◌, ◌⊎◌, ⊎_elim, List, length, refl, ap, subst, arith, Ordering, Less, Equal, Greater, nat_cmp}
use Rattle.std.specs.Ordering.{ordering_then}
use Rattle.std.specs.Cmp.{IsTotalOrder}
use Rattle.std.specs.Cmp.Lexicographic.{slice_cmp}
use Rattle.std.specs.FinMap.{slice_cmp-IsAntisymmetric, nat_cmp-IsAntisymmetric}
use Rattle.std.proofs.lemmas.Cmp.{nat_cmp_total, nat_list_cmp_total, on_total, then_total, tied_itself}
use Rattle.std.proofs.lemmas.Bool.{cases_order, lt-ltb, le-ltb, ne_eqb}
use Rattle.goods_set.specs.Bundles.{IsRising, IsInside}
use Rattle.goods_set.specs.Lemmas.Sizes.{length_inside, same_from_length}
use Rattle.goods_set.specs.Lemmas.Sorted.{IsStrict}
use Rattle.goods_set.specs.Orders.{bundle_cmp}

-- ---- the laws: a total order, which is Equal only for equal lists

pub bundle_cmp_total : IsTotalOrder bundle_cmp
bundle_cmp_total = then_total (on_total (λ (xs : List ℕ). length xs) nat_cmp_total) nat_list_cmp_total

pub bundle_cmp_refl : (xs : List ℕ) → bundle_cmp xs xs ≡ Equal
bundle_cmp_refl xs = tied_itself bundle_cmp_total xs

then_equal : (a b : Ordering) → ordering_then a b ≡ Equal → b ≡ Equal
then_equal Less b e = absurd (cc)
then_equal Equal b e = e
then_equal Greater b e = absurd (cc)

pub bundle_cmp_equal : (xs ys : List ℕ) → bundle_cmp xs ys ≡ Equal → xs ≡ ys
bundle_cmp_equal xs ys e = slice_cmp-IsAntisymmetric nat_cmp-IsAntisymmetric xs ys (then_equal (nat_cmp (length xs) (length ys)) (slice_cmp nat_cmp xs ys) e)

-- so that strictly sorted lists of bundles with the same bundles are equal
pub bundle_cmp_strict : IsStrict bundle_cmp
bundle_cmp_strict = record { irreflexive = λ xs e. let f : bundle_cmp xs xs ≡ Equal = bundle_cmp_refl xs in cc; transitive = bundle_cmp_total.trans }

-- ---- which comes first

pub nat_cmp-lt : (x y : ℕ) → x < y → nat_cmp x y ≡ Less
nat_cmp-lt x y l = rw (lt-ltb x y l) refl

pub nat_cmp-gt : (x y : ℕ) → y < x → nat_cmp x y ≡ Greater
nat_cmp-gt x y l = rw (le-ltb x y (omega arith), ne_eqb x y (λ e. omega arith)) refl

pub nat_cmp-refl : (x : ℕ) → nat_cmp x x ≡ Equal
nat_cmp-refl x = tied_itself nat_cmp_total x

pub smaller_first : (xs ys : List ℕ) → length xs < length ys → bundle_cmp xs ys ≡ Less
smaller_first xs ys l = ap (λ o. ordering_then o (slice_cmp nat_cmp xs ys)) (nat_cmp-lt (length xs) (length ys) l)

pub larger_last : (xs ys : List ℕ) → length ys < length xs → bundle_cmp xs ys ≡ Greater
larger_last xs ys l = ap (λ o. ordering_then o (slice_cmp nat_cmp xs ys)) (nat_cmp-gt (length xs) (length ys) l)

pub same_size : (xs ys : List ℕ) → length xs ≡ length ys → bundle_cmp xs ys ≡ slice_cmp nat_cmp xs ys
same_size xs ys e = ap (λ o. ordering_then o (slice_cmp nat_cmp xs ys)) (subst (λ n. nat_cmp (length xs) n ≡ Equal) e (nat_cmp-refl (length xs)))

-- a bundle inside another comes before it or equals it
pub inside_ordered : (xs ys : List ℕ) → IsRising xs → IsRising ys → IsInside xs ys → (bundle_cmp xs ys ≡ Less) ⊎ (xs ≡ ys)
inside_ordered xs ys r s i = search (rules, same_from_length, smaller_first, length_inside, cases_order)

-- one inside another and not equal to it comes before it
pub inside_before : (xs ys : List ℕ) → IsRising xs → IsRising ys → IsInside xs ys → (xs ≡ ys → ⊥) → bundle_cmp xs ys ≡ Less
inside_before xs ys r s i n = ⊎_elim (λ (e : bundle_cmp xs ys ≡ Less). e) (λ (e : xs ≡ ys). absurd (n e)) (inside_ordered xs ys r s i)
