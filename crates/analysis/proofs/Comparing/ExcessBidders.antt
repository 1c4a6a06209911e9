-- The walk of proofs/ExcessWalks over bidders, as the code reads them at their indices. The idea: what is read at an index is the
-- element there.
use Rattle.analysis.proofs.Common.{rules, ◌≡◌, ℕ, ◌+◌, ◌-◌, ◌<◌, ◌≤◌, true, false, List, [], ◌∷◌, ◌++◌, length, map, get_or, sym, ap, ◌∙◌, subst, arith, is_eq}
use Rattle.analysis.proofs.Common.{get_or-map, length-map, PlainBid, bidder_cmp, bidder_cmp_total, bidder_cmp_equal, offers, bidder_at, NeverFall}
use Rattle.analysis.proofs.Comparing.ExcessWalks.{IsWalked, IsSkipped, walked_equal, walked_excess}

pub bidder_at_index : (bidders : List (List PlainBid)) (index : ℕ) (bidder : List PlainBid) → index < length bidders
    → bidder ≡ get_or bidders index bidder → bidder_at (map offers bidders) index ≡ offers bidder
bidder_at_index bidders index bidder l e = get_or-map offers bidders index bidder [] l ∙ sym (ap offers e)

-- the bidders from the index on that are in excess are named, last first, and the others from `end` on are taken
abbrev pub AreWalked : List (List PlainBid) → List (List PlainBid) → ℕ → ℕ → List ℕ → Type 0
AreWalked bidders others index end indices = IsWalked bidder_cmp [] bidder_cmp_total bidder_cmp_equal (map offers bidders) (map offers others) index end indices

pub end_within : (bidders others : List (List PlainBid)) (index end : ℕ) (indices : List ℕ) → AreWalked bidders others index end indices → end ≤ length others
end_within bidders others index end indices w = simp length-map at w.taken.within

-- the others that are greater than the bidder were skipped
abbrev pub AreSkipped : List (List PlainBid) → List PlainBid → ℕ → ℕ → Type 0
AreSkipped others bidder end before = IsSkipped bidder_cmp [] bidder_cmp_total bidder_cmp_equal (map offers others) (offers bidder) end before

module _ (bidders others : List (List PlainBid)) (later end before : ℕ) (indices : List ℕ) (bidder : List PlainBid) (up : NeverFall (map offers bidders))
    (some : 0 < later) (within : later ≤ length bidders) (w : AreWalked bidders others later end indices)
    (read : bidder ≡ get_or bidders (later - 1) bidder) (s : AreSkipped others bidder end before) where
  index_within : later - 1 < length (map offers bidders)
  index_within = simp length-map (omega arith)

  walked_later : AreWalked bidders others (later - 1 + 1) end indices
  walked_later = let same : later ≡ later - 1 + 1 = omega arith in subst (λ n. AreWalked bidders others n end indices) same w

  at_index : bidder_at (map offers bidders) (later - 1) ≡ offers bidder
  at_index = bidder_at_index bidders (later - 1) bidder (omega arith) read

  skipped_at : IsSkipped bidder_cmp [] bidder_cmp_total bidder_cmp_equal (map offers others) (bidder_at (map offers bidders) (later - 1)) end before
  skipped_at = search (rules, bidder_cmp_total, bidder_cmp_equal, at_index)

  others_within : before ≤ length others
  others_within = omega (arith, end_within bidders others later end indices w, s.within)

  -- the last of the others that are left, beside the bidder
  test_at : (last : ℕ) (other : List PlainBid) → last + 1 ≡ before → other ≡ get_or others last other
      → is_eq (bidder_cmp (bidder_at (map offers bidders) (later - 1)) (bidder_at (map offers others) last)) ≡ is_eq (bidder_cmp (offers bidder) (offers other))
  test_at last other e f = search (rules, bidder_at_index, others_within, at_index)

  pub one_equal : (other : List PlainBid) → 0 < before → other ≡ get_or others (before - 1) other → is_eq (bidder_cmp (offers bidder) (offers other)) ≡ true
      → AreWalked bidders others (later - 1) (before - 1) indices
  one_equal other l f tied =
      walked_equal bidder_cmp [] bidder_cmp_total bidder_cmp_equal (map offers bidders) (map offers others) (later - 1) end before indices up index_within
      walked_later skipped_at (before - 1) (omega arith) (test_at (before - 1) other (omega arith) f ∙ tied)

  pub one_excess : NeverFall (map offers others) → (0 < before → is_eq (bidder_cmp (offers bidder) (bidder_at (map offers others) (before - 1))) ≡ false)
      → AreWalked bidders others (later - 1) before (indices ++ (later - 1) ∷ [])
  one_excess others_up differ =
      walked_excess bidder_cmp [] bidder_cmp_total bidder_cmp_equal (map offers bidders) (map offers others) (later - 1) end before indices up index_within
      walked_later skipped_at others_up
      (λ last e. search (rules, at_index))
