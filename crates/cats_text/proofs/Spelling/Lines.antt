-- Lines without a fault: three header lines, and then bid lines, each with a number of its own, as many as the header says.
use Rattle.cats_text.proofs.Common.{◌≡◌, ℕ, suc, ◌<◌, ◌≤◌, true, false, cond, List, [], ◌∷◌, ◌++◌, length, map, Some, None, refl, sym, ap, subst, arith}
use Rattle.cats_text.proofs.Common.{append_assoc, append-nil, length-append, both_ways, ltb-false, le-ltb, map-append, AllByRecursion, Word, Line, AreDistinct}
use Rattle.cats_text.proofs.Common.{line_number, Bounds, bounds_of, words_fault, end_fault, is_line_due, fault_at, lines_fault, Missing, MAX_GOODS, MAX_BIDS}
use Rattle.cats_text.proofs.Common.{MAX_DUMMY, common_steps, codes}
use Rattle.cats_text.proofs.Spelling.Marks.{AreDistinct-push}
use Rattle.cats_text.proofs.Spelling.Members.{new_at}
use Rattle.cats_text.proofs.Spelling.BidsByNumber.{FillPlaces}
use Rattle.cats_text.proofs.Spelling.Tests.{or_none, none_or, map_none, cond_none, or_whole, IsHeader, header_from, header_none}
use Rattle.cats_text.proofs.Spelling.Goods.{IsBidLine, bid_line_from, bid_line_none}

-- ---- no fault, by lines of words

abbrev pub HaveNoFault : List (List Word) → List (List Word) → Type 0
HaveNoFault lines [] = is_line_due lines ≡ false
HaveNoFault lines (w ∷ ws) = (words_fault lines [] w ≡ None) × (end_fault lines w ≡ None) × HaveNoFault (lines ++ w ∷ []) ws

pub words_from : (count : ℕ) (lines : List (List Word)) (ls : List Line) → lines_fault true count lines ls ≡ None → HaveNoFault lines (map (λ l. l.words) ls)
words_from count lines [] f = cond_none (is_line_due lines) (fault_at (suc count) Missing) f
words_from count lines (l ∷ ls) f = grind (arith, common_steps, map_none, or_none, or_whole, (words_from count (lines ++ l.words ∷ []) ls))

pub words_none : (count : ℕ) (lines : List (List Word)) (ls : List Line) → HaveNoFault lines (map (λ l. l.words) ls) → lines_fault true count lines ls ≡ None
words_none count lines [] h = ap (λ b. cond b (Some (fault_at (suc count) Missing)) None) h
words_none count lines (l ∷ ls) h = grind (arith, common_steps, none_or, or_whole, (words_none count (lines ++ l.words ∷ []) ls h.2))

-- ---- bid lines

pub record AreBidLines (h : Bounds) (lines : List (List Word)) : Type 0 where
  pub each : AllByRecursion (IsBidLine h) lines
  pub distinct : AreDistinct (map line_number lines)
  pub count : length lines ≡ h.bids

all_push : (P : List Word → Type 0) (xs : List (List Word)) (x : List Word) → AllByRecursion P xs → P x → AllByRecursion P (xs ++ x ∷ [])
all_push P [] x a p = (p, tt)
all_push P (y ∷ ys) x a p = (a.0, all_push P ys x a.1 p)

module _ (g b d : List Word) where
  abbrev bounds : Bounds
  bounds = bounds_of g b d

  bid_lines_from : (before rest : List (List Word)) → AllByRecursion (IsBidLine bounds) before → AreDistinct (map line_number before)
      → length before ≤ bounds.bids → HaveNoFault (g ∷ b ∷ d ∷ before) rest → AreBidLines bounds (before ++ rest)
  bid_lines_from before [] a distinct l h = grind (arith, common_steps, append-nil, ltb-false)
  bid_lines_from before (w ∷ ws) a distinct l h =
      grind (arith, common_steps, AreDistinct-push, all_push, append_assoc, bid_line_from, length-append, map-append, (bid_lines_from (before ++ w ∷ []) ws))

  bid_lines_none : (before rest : List (List Word)) → AllByRecursion (IsBidLine bounds) rest → AreDistinct (map line_number (before ++ rest))
      → length (before ++ rest) ≡ bounds.bids → HaveNoFault (g ∷ b ∷ d ∷ before) rest
  bid_lines_none before [] a distinct l = grind (arith, common_steps, append-nil, le-ltb)
  bid_lines_none before (w ∷ ws) a distinct l =
      grind (arith, common_steps, append_assoc, bid_line_none, length-append, map-append, new_at, (bid_lines_none (before ++ w ∷ []) ws a.1))

-- ---- all lines

pub record AreFileLines (lines : List (List Word)) : Type 0 where
  pub g : List Word
  pub b : List Word
  pub d : List Word
  pub bid_lines : List (List Word)
  pub lines_are : lines ≡ g ∷ b ∷ d ∷ bid_lines
  pub goods : IsHeader (codes "goods") MAX_GOODS g
  pub bids : IsHeader (codes "bids") MAX_BIDS b
  pub dummy : IsHeader (codes "dummy") MAX_DUMMY d
  pub are : AreBidLines (bounds_of g b d) bid_lines

pub lines_from : (lines : List (List Word)) → HaveNoFault [] lines → AreFileLines lines
lines_from [] h = absurd (both_ways true h refl)
lines_from (g ∷ []) h = absurd (both_ways true h.2 refl)
lines_from (g ∷ b ∷ []) h = absurd (both_ways true h.2.2 refl)
lines_from (g ∷ b ∷ d ∷ ls) h = grind (arith, common_steps, bid_lines_from, header_from)

file_lines_none : (g b d : List Word) (ls : List (List Word)) → IsHeader (codes "goods") MAX_GOODS g → IsHeader (codes "bids") MAX_BIDS b
    → IsHeader (codes "dummy") MAX_DUMMY d → AreBidLines (bounds_of g b d) ls → HaveNoFault [] (g ∷ b ∷ d ∷ ls)
file_lines_none g b d ls p q r a = grind (arith, common_steps, bid_lines_none, header_none)

pub lines_none : (lines : List (List Word)) → AreFileLines lines → HaveNoFault [] lines
lines_none lines p = subst (HaveNoFault []) (sym p.lines_are) (file_lines_none p.g p.b p.d p.bid_lines p.goods p.bids p.dummy p.are)

-- the lines fill the places of the bids
numbers_below : (h : Bounds) (lines : List (List Word)) → AllByRecursion (IsBidLine h) lines → AllByRecursion (λ k. k < h.bids) (map line_number lines)
numbers_below h [] a = tt
numbers_below h (w ∷ ws) a = (subst (λ k. k < h.bids) (sym (ap line_number a.0.words_are)) a.0.number_below, numbers_below h ws a.1)

pub fill_places : (h : Bounds) (lines : List (List Word)) → AreBidLines h lines → FillPlaces h.bids lines
fill_places h lines p = record { distinct = p.distinct; below = numbers_below h lines p.each; count = p.count }
