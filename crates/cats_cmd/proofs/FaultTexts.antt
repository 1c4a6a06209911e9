-- What is reported of a fault is a line of printable ASCII.
use Rattle.cats_cmd.proofs.Common.{not, ◌≡◌, ℕ, ◌-◌, ◌<◌, ◌==◌, true, List, [], ◌∷◌, ◌++◌, length, take, refl, sym, ap, ◌∙◌, arith, list_all, take-append_seam}
use Rattle.cats_cmd.proofs.Common.{text_of_unopened, text_of_unwritten, NotWritten, Unwritten}
use Rattle.cats_cmd.proofs.Common.{nat_tests, append_assoc, line_of_fault, prefix_of, text_of_canon_fault, text_of_heavy_bid, text_of_kind, text_of_limit}
use Rattle.cats_cmd.proofs.Common.{HeavyBid, bundle_text, number_cell, RunFault, Refused, TooHeavy, GoodRange, BidRange, Sent, CanonFault, Read, StepLimit}
use Rattle.cats_cmd.proofs.Common.{Memory, Which, Kind, fault_cell, without_end, NotOpened}
use Rattle.cats_cmd.proofs.Common.{Unopened, codes, decimal, Option, Some, None, length-append, Limit, OfEach, OfAll}
use Rattle.canon.specs.declared.which.Which.TheVariants as which
use Rattle.cats_text.specs.declared.read_fault.Kind.TheVariants as kinds
use Rattle.commands.specs.declared.faults.Unopened.TheVariants as unopened
use Rattle.commands.specs.declared.faults.Unwritten.TheVariants as unwritten
use Rattle.cats_cmd.proofs.PrintableTexts.{lacks, list_all-weaker, is_ascii, list_all-decimal, of_each}

abbrev pub Plain : List ℕ → Type 0
Plain text = list_all is_ascii text ≡ true

-- no tab, no line feed, no NUL
pub plain_lacks : (end : ℕ) → end < 32 → (text : List ℕ) → Plain text → lacks end text ≡ true
plain_lacks end low = list_all-weaker is_ascii (λ b. not (b == end)) (λ b is. grind (arith, nat_tests))

-- ---- texts of faults

number : (n : ℕ) → Plain (decimal n)
number n = list_all-decimal is_ascii (λ d l. grind (arith, nat_tests)) n

bundle : (goods : List ℕ) → Plain (bundle_text goods)
bundle [] = refl
bundle (g ∷ goods) = simp (of_each, number)

kind_text : (line : ℕ) (kind : Kind) → Plain (text_of_kind line kind)
kind_text line kinds.TooLong = refl
kind_text line kinds.Device = refl
kind_text line kinds.Memory = refl
kind_text line kind = simp (of_each, number)

prefix : (w : Which) → Plain (prefix_of w)
prefix which.First = refl
prefix w = refl

canon_text : (fault : CanonFault) → Plain (text_of_canon_fault fault)
canon_text (Read fault) = kind_text fault.line fault.kind
canon_text (StepLimit goods) = simp bundle
canon_text Memory = refl

limit_text : (limit : Limit) → Plain (text_of_limit limit)
limit_text (OfEach steps) = number steps
limit_text (OfAll steps) = number steps

heavy_text : (heavy : HeavyBid) → Plain (text_of_heavy_bid heavy)
heavy_text heavy = simp (of_each, number, limit_text, bundle)

plain_behind : (xs ys : List ℕ) → Plain xs → Plain ys → Plain (xs ++ ys)
plain_behind xs ys x y = simp (of_each, x, y)

-- ---- lines of faults

pub record IsLine (line : List ℕ) : Type 0 where
  pub text : List ℕ
  pub is : line ≡ text ++ 10 ∷ []
  pub plain : Plain text

ended : (text : List ℕ) → Plain text → IsLine (text ++ 10 ∷ [])
ended text plain = record { text = text; is = refl; plain = plain }

ended_behind : (xs ys : List ℕ) → Plain (xs ++ ys) → IsLine (xs ++ (ys ++ 10 ∷ []))
ended_behind xs ys plain = record { text = xs ++ ys; is = sym (append_assoc xs ys (10 ∷ [])); plain = plain }

unopened_text : (why : Unopened) → Plain (text_of_unopened why)
unopened_text unopened.Other = refl
unopened_text why = refl

unwritten_text : (why : Unwritten) → Plain (text_of_unwritten why)
unwritten_text unwritten.Other = refl
unwritten_text why = refl

pub fault_line : (why : RunFault) → IsLine (line_of_fault why)
fault_line (NotOpened w why) = ended (prefix_of w ++ text_of_unopened why) (simp (of_each, prefix, unopened_text))
fault_line (Refused w why) = ended (prefix_of w ++ text_of_canon_fault why) (simp (of_each, prefix, canon_text))
fault_line (TooHeavy w heavy) =
    ended (prefix_of w ++ text_of_heavy_bid heavy) (plain_behind (prefix_of w) (text_of_heavy_bid heavy) (prefix w) (heavy_text heavy))
fault_line (GoodRange good) = ended_behind (codes "good " ++ decimal good) (codes " out of range") (simp (of_each, number))
fault_line (BidRange bid) = ended_behind (codes "bid " ++ decimal bid) (codes " out of range") (simp (of_each, number))
fault_line (Sent why) = ended_behind (codes "output failed after " ++ decimal why.written) (codes " bytes") (simp (of_each, number))
fault_line (NotWritten why) = ended (text_of_unwritten why) (unwritten_text why)

-- ---- cells

end_left_out : (text : List ℕ) → without_end (text ++ 10 ∷ []) ≡ text
end_left_out text =
    let shorter : length (text ++ 10 ∷ []) - 1 ≡ length text = omega (arith, length-append text (10 ∷ [])) in
    ap (λ (n : ℕ). take n (text ++ 10 ∷ [])) shorter ∙ take-append_seam text (10 ∷ [])

pub fault_plain : (fault : Option RunFault) → Plain (fault_cell fault)
fault_plain None = refl
fault_plain (Some fault) = let line = fault_line fault in rw (line.is, end_left_out line.text) line.plain

pub number_plain : (number : Option ℕ) → Plain (number_cell number)
number_plain None = refl
number_plain (Some n) = number n
