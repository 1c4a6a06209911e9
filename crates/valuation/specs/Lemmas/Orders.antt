-- The orders of atoms and of bidders are total, and answer Equal only for equal ones; lists are compared element by element.
use Rattle.std.proofs.Common.{rules, ◌≡◌, ℕ, zero, suc, true, false, min, List, [], ◌∷◌, length, drop, Ordering, Less, Equal, Greater, nat_cmp}
use Rattle.std.proofs.Common.{refl, sym, ap₂, ◌∙◌, arith}
use Rattle.std.specs.Ordering.{is_ne, ordering_then}
use Rattle.std.specs.Cmp.{IsTotalOrder}
use Rattle.std.specs.Cmp.Lexicographic.{slice_cmp}
use Rattle.std.specs.FinMap.{slice_cmp-IsAntisymmetric, nat_cmp-IsAntisymmetric}
use Rattle.std.proofs.lemmas.Bool.{cases_order}
use Rattle.std.proofs.lemmas.Cmp.{nat_cmp_total, on_total, then_total, lists_total}
use Rattle.goods_set.specs.Orders.{bundle_cmp}
use Rattle.goods_set.specs.Lemmas.Orders.{bundle_cmp_total, bundle_cmp_equal, nat_cmp-lt, nat_cmp-gt, nat_cmp-refl}
use Rattle.valuation.specs.declared.atom.Atom.{Atom}
use Rattle.valuation.specs.Orders.{atom_cmp, bidder_cmp}

pub atom_cmp_total : IsTotalOrder atom_cmp
atom_cmp_total = then_total (on_total (λ (a : Atom (List ℕ)). a.bundle) bundle_cmp_total) (on_total (λ (a : Atom (List ℕ)). a.price) nat_cmp_total)

pub then_parts : (a b : Ordering) → ordering_then a b ≡ Equal → (a ≡ Equal) × (b ≡ Equal)
then_parts Less b e = absurd (cc)
then_parts Equal b e = (refl, e)
then_parts Greater b e = absurd (cc)

pub atom_cmp_equal : (a b : Atom (List ℕ)) → atom_cmp a b ≡ Equal → a ≡ b
atom_cmp_equal a b e =
    let parts = then_parts (bundle_cmp a.bundle b.bundle) (nat_cmp a.price b.price) e in
    ap₂ (λ (goods : List ℕ) (price : ℕ). record { bundle = goods; price = price }) (bundle_cmp_equal a.bundle b.bundle parts.0)
    (nat_cmp-IsAntisymmetric a.price b.price parts.1)

pub bidder_cmp_total : IsTotalOrder bidder_cmp
bidder_cmp_total = lists_total atom_cmp_total

pub bidder_cmp_equal : (xs ys : List (Atom (List ℕ))) → bidder_cmp xs ys ≡ Equal → xs ≡ ys
bidder_cmp_equal xs ys e = slice_cmp-IsAntisymmetric atom_cmp_equal xs ys e

-- ---- element by element

-- an answer that is not Equal decides, and Equal leaves it to what follows
pub then-decided : (o p : Ordering) → is_ne o ≡ true → ordering_then o p ≡ o
then-decided Less p e = refl
then-decided Equal p e = absurd (cc)
then-decided Greater p e = refl

pub then-left : (o p : Ordering) → is_ne o ≡ false → ordering_then o p ≡ p
then-left Less p e = absurd (cc)
then-left Equal p e = refl
then-left Greater p e = absurd (cc)

nat_cmp-suc : (m n : ℕ) → nat_cmp m n ≡ nat_cmp (suc m) (suc n)
nat_cmp-suc m n = search (rules, nat_cmp-refl, nat_cmp-lt, nat_cmp-gt, cases_order)

-- where one list is at its end, their lengths decide
pub slice_cmp-ended : {X : Type 0} (cmp : X → X → Ordering) (i : ℕ) (xs ys : List X) → i ≡ min (length xs) (length ys)
    → slice_cmp cmp (drop i xs) (drop i ys) ≡ nat_cmp (length xs) (length ys)
slice_cmp-ended cmp zero [] [] e = sym (nat_cmp-refl 0)
slice_cmp-ended cmp zero [] (y ∷ ys) e = sym (nat_cmp-lt 0 (suc (length ys)) (omega arith))
slice_cmp-ended cmp zero (x ∷ xs) [] e = sym (nat_cmp-gt (suc (length xs)) 0 (omega arith))
slice_cmp-ended cmp zero (x ∷ xs) (y ∷ ys) e = absurd (omega arith)
slice_cmp-ended cmp (suc i) [] ys e = absurd (omega arith)
slice_cmp-ended cmp (suc i) (x ∷ xs) [] e = absurd (omega arith)
slice_cmp-ended cmp (suc i) (x ∷ xs) (y ∷ ys) e = slice_cmp-ended cmp i xs ys (omega arith) ∙ nat_cmp-suc (length xs) (length ys)
