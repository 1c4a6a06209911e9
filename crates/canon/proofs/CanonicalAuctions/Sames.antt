-- The canonical auction is the same auction, and auctions are the same exactly where their canonical auctions are equal.
use Rattle.canon.proofs.Common.{◌≡◌, ℕ, true, List, refl, sym, ap₂, subst, rules, All, count_by, filter, All-map, All-filter, All-weaker, Atom, PlainAuction}
use Rattle.canon.proofs.Common.{IsAtom, IsAuction, bidder_cmp, bidder_cmp_total, bidder_cmp_equal, sort_by, sum_by-sort_by, All-sort_by, sort_by-same}
use Rattle.canon.proofs.Common.{or_table, xor_table, is_nonzero, xor_points, same_or_points, on_bundles, has_table, IsSameAuction, points_of_bidders}
use Rattle.canon.proofs.Common.{canonical_auction}
use Rattle.canon.proofs.CanonicalAuctions.Atoms.{HasAtoms, or_points_atoms, xor_points_atoms, or_points_table}
use Rattle.canon.proofs.CanonicalAuctions.Counting.{tables_of_points, points_counted}

-- ---- the same auction is an equivalence

pub same_refl : (a : PlainAuction) → IsSameAuction a a
same_refl a = record { goods = refl; or_values = refl; xor_bidders = λ table n. refl }

pub same_sym : (a b : PlainAuction) → IsSameAuction a b → IsSameAuction b a
same_sym a b s = record { goods = sym s.goods; or_values = sym s.or_values; xor_bidders = λ table n. sym (s.xor_bidders table n) }

pub same_trans : (a b c : PlainAuction) → IsSameAuction a b → IsSameAuction b c → IsSameAuction a c
same_trans a b c s t = search rules

-- ---- the canonical auction

pub HasAtoms-auction : (cap : ℕ) (a : PlainAuction) → IsAuction cap a → HasAtoms a
HasAtoms-auction cap a h = record { or_atoms = h.or_atoms; xor_atoms = h.xor_atoms }

pub HasAtoms-canonical : (a : PlainAuction) → HasAtoms a → HasAtoms (canonical_auction a)
HasAtoms-canonical a h = record {
  or_atoms = or_points_atoms a.goods a.or_atoms h.or_atoms;
  xor_atoms = All-sort_by bidder_cmp (All (IsAtom a.goods)) (points_of_bidders a.goods a.xor_bidders)
      (All-map (All (IsAtom a.goods)) (xor_points a.goods) (filter (λ b. is_nonzero (xor_table b a.goods)) a.xor_bidders)
      (All-filter (λ b. is_nonzero (xor_table b a.goods)) (λ b. All (IsAtom a.goods) (xor_points a.goods b)) a.xor_bidders
      (All-weaker (All (IsAtom a.goods)) (λ b. All (IsAtom a.goods) (xor_points a.goods b)) (λ b k. xor_points_atoms a.goods b k) a.xor_bidders h.xor_atoms)));
}

pub canonical_is_same : (a : PlainAuction) → HasAtoms a → IsSameAuction a (canonical_auction a)
canonical_is_same a h = search (rules, or_points_table, sum_by-sort_by, tables_of_points)

-- the canonical bidders, over the same number of goods
pub same_bidders : (goods : ℕ) (one other : List (List (Atom (List ℕ)))) → All (All (IsAtom goods)) one → All (All (IsAtom goods)) other
    → ((table : List ℕ) → is_nonzero table ≡ true → count_by (has_table goods table) one ≡ count_by (has_table goods table) other)
    → sort_by bidder_cmp (points_of_bidders goods one) ≡ sort_by bidder_cmp (points_of_bidders goods other)
same_bidders goods one other h k same = search (rules, sort_by-same, bidder_cmp_total, bidder_cmp_equal, points_counted)

pub same_canonical : (a b : PlainAuction) → HasAtoms a → HasAtoms b → IsSameAuction a b → canonical_auction a ≡ canonical_auction b
same_canonical a b h k s =
    over b.goods s.goods k.or_atoms k.xor_atoms s.or_values s.xor_bidders
  where
    over : (n : ℕ) → a.goods ≡ n → All (IsAtom n) b.or_atoms → All (All (IsAtom n)) b.xor_bidders → or_table a.or_atoms a.goods ≡ or_table b.or_atoms n
        → ((table : List ℕ) → is_nonzero table ≡ true → count_by (has_table a.goods table) a.xor_bidders ≡ count_by (has_table n table) b.xor_bidders)
        → canonical_auction a ≡ canonical_auction (record { goods = n; or_atoms = b.or_atoms; xor_bidders = b.xor_bidders })
    over n e =
        subst (λ m. All (IsAtom m) b.or_atoms → All (All (IsAtom m)) b.xor_bidders → or_table a.or_atoms a.goods ≡ or_table b.or_atoms m
        → ((table : List ℕ) → is_nonzero table ≡ true → count_by (has_table a.goods table) a.xor_bidders ≡ count_by (has_table m table) b.xor_bidders)
        → canonical_auction a ≡ canonical_auction (record { goods = m; or_atoms = b.or_atoms; xor_bidders = b.xor_bidders })) e
        (λ p q t u.
        ap₂ (λ (or_atoms : List (Atom (List ℕ))) (xor_bidders : List (List (Atom (List ℕ)))). record {
          goods = a.goods;
          or_atoms = or_atoms;
          xor_bidders = xor_bidders;
        })
        ((same_or_points a.goods a.or_atoms b.or_atoms (on_bundles a.goods a.or_atoms h.or_atoms) (on_bundles a.goods b.or_atoms p)).0 t)
        (same_bidders a.goods a.xor_bidders b.xor_bidders h.xor_atoms q u))

pub same_from_canonical : (a b : PlainAuction) → HasAtoms a → HasAtoms b → canonical_auction a ≡ canonical_auction b → IsSameAuction a b
same_from_canonical a b h k e =
    same_trans a (canonical_auction b) b (subst (λ (c : PlainAuction). IsSameAuction a c) e (canonical_is_same a h))
    (same_sym b (canonical_auction b) (canonical_is_same b k))

-- the canonical auction stays itself
pub canonical_is_fixed : (a : PlainAuction) → HasAtoms a → canonical_auction (canonical_auction a) ≡ canonical_auction a
canonical_is_fixed a h = same_canonical (canonical_auction a) a (HasAtoms-canonical a h) h (same_sym a (canonical_auction a) (canonical_is_same a h))
