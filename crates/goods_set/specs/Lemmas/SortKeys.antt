-- Lists are ordered by their sort keys, where these differ. Of two lists of one length the first goods are unpacked one by one: where their
-- numbers differ, so do the goods at the first index at which the lists do.
use Rattle.std.proofs.Common.{rules, ◌≡◌, ℕ, zero, suc, ◌+◌, ◌*◌, ◌^◌, ◌<◌, ◌≤◌, cond, ⊎_elim, List, [], ◌∷◌, length, get_or, refl, sym, ap, arith, Less}
use Rattle.std.proofs.Common.{Equal, Greater, nat_cmp}
use Rattle.std.specs.Ordering.{ordering_then}
use Rattle.std.specs.Cmp.Lexicographic.{slice_cmp}
use Rattle.std.proofs.lemmas.Bool.{cases_order, cases_lt, lt-ltb, le-ltb}
use Rattle.goods_set.specs.Bundles.{AreBelow}
use Rattle.goods_set.specs.Orders.{bundle_cmp}
use Rattle.goods_set.specs.Lemmas.Orders.{nat_cmp-lt, nat_cmp-gt, nat_cmp-refl, smaller_first, larger_last, same_size}
use Rattle.goods_set.specs.SortKeys.{sort_key_of, first_goods}

-- ---- members

pub member_fits : (xs : List ℕ) (i : ℕ) → AreBelow 65536 xs → get_or xs i 0 < 65536
member_fits [] i b = omega arith
member_fits (x ∷ xs) zero b = b.0
member_fits (x ∷ xs) (suc i) b = member_fits xs i b.1

-- ---- the first member that differs decides

head_less : (x y : ℕ) (xs ys : List ℕ) → x < y → slice_cmp nat_cmp (x ∷ xs) (y ∷ ys) ≡ Less
head_less x y xs ys l = ap (λ o. ordering_then o (slice_cmp nat_cmp xs ys)) (nat_cmp-lt x y l)

head_same : (x y : ℕ) (xs ys : List ℕ) → x ≡ y → slice_cmp nat_cmp xs ys ≡ Less → slice_cmp nat_cmp (x ∷ xs) (y ∷ ys) ≡ Less
head_same x y xs ys e h = rw (sym e, nat_cmp-refl x) h

less_1 : (xs ys : List ℕ) → length xs ≡ length ys → get_or xs 0 0 < get_or ys 0 0 → slice_cmp nat_cmp xs ys ≡ Less
less_1 [] [] e l = absurd (omega arith)
less_1 [] (y ∷ ys) e l = absurd (omega (arith, e))
less_1 (x ∷ xs) [] e l = absurd (omega (arith, e))
less_1 (x ∷ xs) (y ∷ ys) e l = head_less x y xs ys l

abbrev first_two : List ℕ → ℕ
first_two xs = get_or xs 0 0 * 2 ^ 16 + get_or xs 1 0

less_2 : (xs ys : List ℕ) → length xs ≡ length ys → AreBelow 65536 xs → AreBelow 65536 ys → first_two xs < first_two ys → slice_cmp nat_cmp xs ys ≡ Less
less_2 [] [] e a b l = absurd (omega arith)
less_2 [] (y ∷ ys) e a b l = absurd (omega (arith, e))
less_2 (x ∷ xs) [] e a b l = absurd (omega (arith, e))
less_2 (x ∷ xs) (y ∷ ys) e a b l = search (rules, member_fits, head_same, less_1, head_less, cases_order)

less_3 : (xs ys : List ℕ) → length xs ≡ length ys → AreBelow 65536 xs → AreBelow 65536 ys → first_goods xs < first_goods ys → slice_cmp nat_cmp xs ys ≡ Less
unfolding first_goods
less_3 [] [] e a b l = absurd (omega arith)
less_3 [] (y ∷ ys) e a b l = absurd (omega (arith, e))
less_3 (x ∷ xs) [] e a b l = absurd (omega (arith, e))
less_3 (x ∷ xs) (y ∷ ys) e a b l = search (rules, member_fits, head_same, less_2, head_less, cases_order)

-- ---- the order

greater_from : (xs ys : List ℕ) → slice_cmp nat_cmp ys xs ≡ Less → slice_cmp nat_cmp xs ys ≡ Greater
greater_from [] [] h = absurd (cc)
greater_from [] (y ∷ ys) h = absurd (cc)
greater_from (x ∷ xs) [] h = refl
greater_from (x ∷ xs) (y ∷ ys) h = ⊎_elim (λ (s : x ≡ y). rw (
  s,
  nat_cmp-refl y,
) (greater_from xs ys (search (rules, nat_cmp-refl)))) (search (rules, nat_cmp-gt)) (cases_order x y)

first_goods-fit : (xs : List ℕ) → AreBelow 65536 xs → first_goods xs < 2 ^ 48
unfolding first_goods
first_goods-fit xs b = search (rules, member_fits)

pub sort_key_of-short : (xs : List ℕ) → length xs < 65535 → sort_key_of xs ≡ length xs * 2 ^ 48 + first_goods xs
unfolding sort_key_of
sort_key_of-short xs l = ap (λ b. cond b (length xs * 2 ^ 48 + first_goods xs) (65535 * 2 ^ 48)) (lt-ltb (length xs) 65535 l)

pub sort_key_of-long : (xs : List ℕ) → 65535 ≤ length xs → sort_key_of xs ≡ 65535 * 2 ^ 48
unfolding sort_key_of
sort_key_of-long xs l = ap (λ b. cond b (length xs * 2 ^ 48 + first_goods xs) (65535 * 2 ^ 48)) (le-ltb (length xs) 65535 l)

-- the lesser key comes first
pub sort_key_less : (xs ys : List ℕ) → AreBelow 65536 xs → AreBelow 65536 ys → sort_key_of xs < sort_key_of ys → bundle_cmp xs ys ≡ Less
sort_key_less xs ys a b l = search (rules, first_goods-fit, sort_key_of-short, same_size, less_3, smaller_first, cases_order, cases_lt, sort_key_of-long)

bundle_cmp-greater : (xs ys : List ℕ) → bundle_cmp ys xs ≡ Less → bundle_cmp xs ys ≡ Greater
bundle_cmp-greater xs ys h = search (rules, same_size, greater_from, larger_last, cases_order)

-- the order of two bundles from their sort keys, where these differ
pub order_by_key : (xs ys : List ℕ) → AreBelow 65536 xs → AreBelow 65536 ys → (nat_cmp (sort_key_of xs) (sort_key_of ys) ≡ Equal → ⊥)
    → nat_cmp (sort_key_of xs) (sort_key_of ys) ≡ bundle_cmp xs ys
order_by_key xs ys a b n = search (rules, nat_cmp-refl, nat_cmp-lt, sort_key_less, nat_cmp-gt, bundle_cmp-greater, cases_order)
