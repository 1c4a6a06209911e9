-- Pieces of a text: what is decided of a CR, what is complete, and what waits.
use Rattle.cats_text.proofs.Common.{rules, ◌≡◌, ℕ, Bool, true, false, ◌&&◌, cond, eqb, List, [], ◌∷◌, ◌++◌, refl, sym, ap, ap₂, ◌∙◌, subst, Some, None, Ok, Err}
use Rattle.cats_text.proofs.Common.{both_ways, eqb-true, ne_eqb, AllByRecursion, is_blank, line_byte, blank_returns, is_final, keep_final, up_to_final}
use Rattle.cats_text.proofs.Common.{complete_fault, return_byte, settled, waits, carried, State, Scan, first_state, and_then, scan, end_step, end_of}
use Rattle.cats_text.proofs.Common.{letter_mode, PlainBid, arith, common_steps}
use Rattle.cats_text.proofs.Scanning.Lines.{scan-append, byte_letter}
use Rattle.cats_text.proofs.Parsing.WholeLines.{Scanned}
use Rattle.cats_text.proofs.Scanning.AllBytes.{outcome}
use Rattle.cats_text.proofs.Texts.FirstFaults.{EndsFinal, OpenIs, open_fault}

-- ---- one piece behind another

pub settled-append : (x p : List ℕ) → settled (x ++ p) ≡ settled x ++ settled (carried (waits x) p)
settled-append [] p = refl
settled-append (b ∷ []) p = grind (arith, common_steps, eqb-true)
settled-append (b ∷ c ∷ cs) p = ap (λ ds. cond (eqb b 13) (return_byte c) b ∷ ds) (settled-append (c ∷ cs) p)

pub waits-append : (x p : List ℕ) → waits (x ++ p) ≡ waits (carried (waits x) p)
waits-append [] p = refl
waits-append (b ∷ []) [] = elim (eqb b 13) as (λ t. t ≡ waits (carried t [])) [ true ↦ refl | false ↦ refl ]
waits-append (b ∷ []) (c ∷ cs) = elim (eqb b 13) as (λ t. waits (c ∷ cs) ≡ waits (carried t (c ∷ cs))) [ true ↦ refl | false ↦ refl ]
waits-append (b ∷ c ∷ cs) p = waits-append (c ∷ cs) p

-- ---- at the end a CR that waits is a blank

abbrev pub waiting : Bool → List ℕ
waiting true = 32 ∷ []
waiting false = []

line_byte-settle : (b c : ℕ) → line_byte b (c ∷ []) ≡ cond (eqb b 13) (return_byte c) b
line_byte-settle b c = grind (arith, common_steps, eqb-true)

pub blank_returns-settled : (x : List ℕ) → blank_returns x ≡ settled x ++ waiting (waits x)
blank_returns-settled [] = refl
blank_returns-settled (b ∷ []) = elim (eqb b 13) as (λ t. cond (t && true) 32 b ∷ [] ≡ cond t [] (b ∷ []) ++ waiting t) [ true ↦ refl | false ↦ refl ]
blank_returns-settled (b ∷ c ∷ cs) = ap₂ (λ (k : ℕ) (ds : List ℕ). k ∷ ds) (line_byte-settle b c) (blank_returns-settled (c ∷ cs))

end_waiting : (w : Bool) (s : State) → end_of w s ≡ and_then (scan s (waiting w)) end_step
end_waiting true s = grind (arith, common_steps)
end_waiting false s = refl

-- the end of the input behind the bytes that are decided
pub end_of_text : (k : PlainBid → PlainBid) (text : List ℕ) (s : State) → scan (first_state k) (settled text) ≡ Ok s
    → end_of (waits text) s ≡ and_then (scan (first_state k) (blank_returns text)) end_step
end_of_text k text s e = grind (arith, common_steps, blank_returns-settled, end_waiting, scan-append)

-- ---- what is complete

-- no byte is final
abbrev pub AreOpen : List ℕ → Type 0
AreOpen bytes = AllByRecursion (λ b. is_final b ≡ false) bytes

-- what is behind the last final byte
pub record IsCut (text rest : List ℕ) : Type 0 where
  pub is : text ≡ up_to_final text ++ rest
  pub open_rest : AreOpen rest
  pub ends : EndsFinal (up_to_final text)

pub cut_of : (text : List ℕ) → (rest : List ℕ) × IsCut text rest
cut_of [] = ([], record { is = refl; open_rest = tt; ends = tt })
cut_of (b ∷ bs) = let later = cut_of bs in joined (up_to_final bs) refl later.0 later.1
  where
    joined : (kept : List ℕ) → up_to_final bs ≡ kept → (rest : List ℕ) → IsCut bs rest → (rest' : List ℕ) × IsCut (b ∷ bs) rest'
    joined [] e rest c = elim (is_final b) as (λ t. is_final b ≡ t → (rest' : List ℕ) × IsCut (b ∷ bs) rest') [
      | true ↦ λ (f : is_final b ≡ true). let is : up_to_final (b ∷ bs) ≡ b ∷ [] = ap (keep_final b) e ∙ ap (λ t. cond t (b ∷ []) []) f in (
        rest,
        record {
          is = ap (λ ds. b ∷ ds) (c.is ∙ ap (λ ds. ds ++ rest) e) ∙ ap (λ ds. ds ++ rest) (sym is);
          open_rest = c.open_rest;
          ends = subst EndsFinal (sym is) f;
        },
      )
      | false ↦ λ (f : is_final b ≡ false). let is : up_to_final (b ∷ bs) ≡ [] = ap (keep_final b) e ∙ ap (λ t. cond t (b ∷ []) []) f in (
        b ∷ rest,
        record {
          is = ap (λ ds. b ∷ ds) (c.is ∙ ap (λ ds. ds ++ rest) e) ∙ ap (λ ds. ds ++ b ∷ rest) (sym is);
          open_rest = (f, c.open_rest);
          ends = subst EndsFinal (sym is) tt;
        },
      )
    ] refl
    joined (k ∷ ks) e rest c = let is : up_to_final (b ∷ bs) ≡ b ∷ k ∷ ks = ap (keep_final b) e in (
      rest,
      record {
        is = ap (λ ds. b ∷ ds) (c.is ∙ ap (λ ds. ds ++ rest) e) ∙ ap (λ ds. ds ++ rest) (sym is);
        open_rest = c.open_rest;
        ends = subst EndsFinal (sym is) (subst EndsFinal e c.ends);
      },
    )

final_no_return : (b : ℕ) → is_final b ≡ true → eqb b 13 ≡ false
final_no_return b f = ne_eqb b 13 (λ e. both_ways (is_final 13) refl (subst (λ n. is_final n ≡ true) e f))

-- the last byte of a text that ends with a final one stays
ends_returns : (y : List ℕ) → EndsFinal y → EndsFinal (blank_returns y)
ends_returns [] f = tt
ends_returns (b ∷ []) f = subst (λ n. is_final n ≡ true) (sym (ap (λ t. cond (t && true) 32 b) (final_no_return b f))) f
ends_returns (b ∷ c ∷ cs) f = ends_returns (c ∷ cs) f

-- nothing behind a final byte changes what is before
settled-final : (y t : List ℕ) → EndsFinal y → settled (y ++ t) ≡ blank_returns y ++ settled t
settled-final [] t f = refl
settled-final (b ∷ []) t f = grind (arith, common_steps, final_no_return)
settled-final (b ∷ c ∷ cs) t f = ap₂ (λ (k : ℕ) (ds : List ℕ). k ∷ ds) (sym (line_byte-settle b c)) (settled-final (c ∷ cs) t f)

open_byte : (b : ℕ) → is_final b ≡ false → (eqb b 10 ≡ false) × (is_blank b ≡ false)
open_byte b f = grind (arith, common_steps)

open_settled : (t : List ℕ) → AreOpen t → AreOpen (settled t)
open_settled [] h = tt
open_settled (b ∷ []) h = elim (eqb b 13) as (λ q. AreOpen (cond q [] (b ∷ []))) [ true ↦ tt | false ↦ h ]
open_settled (b ∷ c ∷ cs) h = grind (arith, common_steps, open_byte, (open_settled (c ∷ cs) h.1))

-- bytes of a word are no fault yet
open_scan : (s : State) (t : List ℕ) → AreOpen t → outcome (scan s t) ≡ Ok s.progress
open_scan s [] h = refl
open_scan s (b ∷ bs) h = grind (arith, common_steps, byte_letter, open_byte, outcome, (open_scan (record s { mode = letter_mode s.mode b }) bs h.1))

open_behind : (r : Scan) (t : List ℕ) → AreOpen t → outcome (and_then r (λ s. scan s t)) ≡ outcome r
open_behind (Ok s) t h = open_scan s t h
open_behind (Err e) t h = refl

-- the answer for the bytes so far
abbrev pub CompleteIs : List ℕ → Scanned → Type 0
CompleteIs bytes (Ok q) = complete_fault bytes ≡ None
CompleteIs bytes (Err e) = complete_fault bytes ≡ Some e

pub complete_is : (k : PlainBid → PlainBid) (text : List ℕ) → CompleteIs text (outcome (scan (first_state k) (settled text)))
complete_is k text =
    let cut = cut_of text in
    search (rules, outcome, settled-final, scan-append, open_behind, open_settled, answer, open_fault, ends_returns)
  where
    answer : (r : Scanned) → OpenIs (up_to_final text) r → CompleteIs text r
    answer (Ok q) h = h
    answer (Err e) h = h
