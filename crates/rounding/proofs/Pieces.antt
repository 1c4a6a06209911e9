-- A text in pieces: a line that has ended, a line that has begun, and pieces one behind the other.
use Rattle.rounding.proofs.Common.{if◌then◌else◌, ◌≡◌, ℕ, suc, ◌+◌, Bool, true, false, ◌&&◌, ◌||◌, eqb, leb, List, [], ◌∷◌, ◌++◌}
use Rattle.rounding.proofs.Common.{refl, sym, ap, ◌∙◌}
use Rattle.rounding.proofs.Common.{arith, append_assoc, append-nil, or_parts, eqb-true, list_any-append, RawLine, raw_lines}
use Rattle.rounding.proofs.Common.{blank_returns, line_words, is_significant}
use Rattle.rounding.proofs.Common.{with_rounded, second_word, replacement, change_by, rounded_lines, rounded_line, lines_text, line_text}
use Rattle.rounding.proofs.Common.{lines_changes, line_changes}
use Rattle.rounding.proofs.Common.{before_next, PlainRoundedPrice, plain_changes, first_line, behind_line, has_line_end, PriceRule, Rounder}
use Rattle.rounding.proofs.Common.{RoundedText, IsRounding}
use Rattle.rounding.proofs.Common.{RoundsOn, RoundsAll, line_end, prices_with, rounded_with, rounded_text, rounded_prices, common_steps}
use Rattle.rounding.proofs.Common.{Result, Ok, Err, OnOk, ◌≤◌, subst, with_byte}
use Rattle.cats_text.specs.Lines.{lines_with}
use Rattle.rounding.proofs.TextLines.{IsLineWritten, line_written, next_before}

-- ---- where lines end

pub first_line_unended : (t : List ℕ) → has_line_end (first_line t) ≡ false
first_line_unended [] = refl
first_line_unended (b ∷ bs) = grind (arith, common_steps, (first_line_unended bs))

split_by : (b : ℕ) (bs : List ℕ) (here : Bool) → (here ≡ true → b ≡ 10) → bs ≡ first_line bs ++ line_end (has_line_end bs) ++ behind_line bs
    → b ∷ bs ≡ (if here then [] else b ∷ first_line bs) ++ line_end (here || has_line_end bs) ++ (if here then bs else behind_line bs)
split_by b bs true is h = ap (λ (x : ℕ). x ∷ bs) (is refl)
split_by b bs false is h = ap (λ (t : List ℕ). b ∷ t) h

-- a text is its first line, that line's LF, and what is behind it
line_split : (t : List ℕ) → t ≡ first_line t ++ line_end (has_line_end t) ++ behind_line t
line_split [] = refl
line_split (b ∷ bs) = split_by b bs (eqb b 10) (eqb-true b 10) (line_split bs)

pub line_cut_off : (d line next : List ℕ) (ended : Bool) → line ≡ first_line d → ended ≡ has_line_end d → next ≡ behind_line d
    → d ≡ (line ++ line_end ended) ++ next
line_cut_off d line next ended el ee en =
    line_split d ∙ ap (λ (t : List ℕ). (t ++ line_end (has_line_end d)) ++ behind_line d) (sym el)
    ∙ ap (λ (v : Bool). (line ++ line_end v) ++ behind_line d) (sym ee) ∙ ap (λ (t : List ℕ). (line ++ line_end ended) ++ t) (sym en)

not_ended : (b : ℕ) (ls : List RawLine) → eqb b 10 ≡ false → lines_with b ls ≡ with_byte b ls
not_ended b ls h = ap (λ (v : Bool). if v then record { bytes = []; ended = true } ∷ ls else with_byte b ls) h

ended_lines : (a rest : List ℕ) → has_line_end a ≡ false → raw_lines (a ++ 10 ∷ rest) ≡ record { bytes = a; ended = true } ∷ raw_lines rest
ended_lines [] rest h = refl
ended_lines (b ∷ bs) rest h =
    let parts = or_parts (eqb b 10) (has_line_end bs) h in
    not_ended b (raw_lines (bs ++ 10 ∷ rest)) parts.0 ∙ ap (with_byte b) (ended_lines bs rest parts.1)

unended_lines : (b : ℕ) (bs : List ℕ) → has_line_end (b ∷ bs) ≡ false → raw_lines (b ∷ bs) ≡ record { bytes = b ∷ bs; ended = false } ∷ []
unended_lines b [] h = let parts = or_parts (eqb b 10) false h in not_ended b [] parts.0
unended_lines b (c ∷ cs) h =
    let parts = or_parts (eqb b 10) (has_line_end (c ∷ cs)) h in
    not_ended b (raw_lines (c ∷ cs)) parts.0 ∙ ap (with_byte b) (unended_lines c cs parts.1)

-- ---- a line that has ended

at_most_one : (significant : Bool) (more : ℕ) → more ≡ (if significant then 1 else 0) → more ≤ 1
at_most_one true more is = omega (arith, is)
at_most_one false more is = omega (arith, is)

-- a rounder that holds nothing
module _ (r : Rounder) (rule : PriceRule) (number before : ℕ) (same : r.rule ≡ rule) (number_is : r.number ≡ number) (before_is : r.before ≡ before)
    (empty : r.line.items ≡ []) (rest : List ℕ) where
  text_from : lines_text (rounded_lines rule before (raw_lines rest)) ≡ rounded_with r rest
  text_from =
      ap (λ (p : PriceRule). lines_text (rounded_lines p before (raw_lines rest))) (sym same)
      ∙ ap (λ n. lines_text (rounded_lines r.rule n (raw_lines rest))) (sym before_is)
      ∙ ap (λ (t : List ℕ). lines_text (rounded_lines r.rule r.before (raw_lines (t ++ rest)))) (sym empty)

  prices_from : lines_changes rule number before (raw_lines rest) ≡ prices_with r rest
  prices_from =
      ap (λ (p : PriceRule). lines_changes p number before (raw_lines rest)) (sym same)
      ∙ ap (λ n. lines_changes r.rule n before (raw_lines rest)) (sym number_is)
      ∙ ap (λ n. lines_changes r.rule r.number n (raw_lines rest)) (sym before_is)
      ∙ ap (λ (t : List ℕ). lines_changes r.rule r.number r.before (raw_lines (t ++ rest))) (sym empty)

pub line_ended : (old new : Rounder) (from to : RoundedText) (t1 : List ℕ) (significant is_bid : Bool) (more : ℕ) → IsRounding old
    → new.rule ≡ old.rule → new.line.items ≡ [] → new.number ≡ old.number + 1 → new.before ≡ old.before + more
    → significant ≡ is_significant (line_words (blank_returns old.line.items)) → is_bid ≡ (leb 3 old.before && significant)
    → more ≡ (if significant then 1 else 0) → t1 ≡ from.text.items ++ (if is_bid then with_rounded old.rule old.line.items else old.line.items)
    → to.text.items ≡ t1 ++ 10 ∷ []
    → plain_changes to.prices.items ≡ plain_changes from.prices.items
    ++ (if is_bid then change_by old.number (second_word old.line.items) (replacement old.rule (second_word old.line.items)) else [])
    → RoundsOn old (line_end true) new [] from to
line_ended old new from to t1 significant is_bid more is er el en eb es ei em e1 e2 ep =
    let line : RawLine = record { bytes = old.line.items; ended = true } in
    let written : IsLineWritten old.rule old.before old.number line from.text.items to.text.items (plain_changes from.prices.items)
    (plain_changes to.prices.items) =
    line_written old.rule old.line.items from.text.items t1 to.text.items (plain_changes from.prices.items)
    (plain_changes to.prices.items) old.before old.number significant is_bid true es ei e1 e2 ep in
    let after : new.before ≡ before_next old.before line = eb ∙ next_before old.before line significant more es em in
    let one : new.number ≡ suc old.number = omega (arith, en) in
    let few : more ≤ 1 = at_most_one significant more em in
    record {
      holds = record { line = ap has_line_end el; before = let counted = is.before in omega (arith, counted, eb, en, few) };
      text = λ rest.
          ap (λ (ls : List RawLine). from.text.items ++ lines_text (rounded_lines old.rule old.before ls)) (ended_lines old.line.items rest is.line)
          ∙ sym (append_assoc from.text.items (line_text (rounded_line old.rule old.before line))
          (lines_text (rounded_lines old.rule (before_next old.before line) (raw_lines rest))))
          ∙ ap (λ (t : List ℕ). t ++ lines_text (rounded_lines old.rule (before_next old.before line) (raw_lines rest))) (sym written.text_is)
          ∙ ap (λ (t : List ℕ). to.text.items ++ t)
          (text_from new old.rule (suc old.number) (before_next old.before line) er one after el rest);
      prices = λ rest.
          ap (λ (ls : List RawLine). plain_changes from.prices.items ++ lines_changes old.rule old.number old.before ls)
          (ended_lines old.line.items rest is.line)
          ∙ sym (append_assoc (plain_changes from.prices.items) (line_changes old.rule old.number old.before line)
          (lines_changes old.rule (suc old.number) (before_next old.before line) (raw_lines rest)))
          ∙ ap (λ (ps : List PlainRoundedPrice). ps ++ lines_changes old.rule (suc old.number) (before_next old.before line) (raw_lines rest))
          (sym written.prices_are)
          ∙ ap (λ (ps : List PlainRoundedPrice). plain_changes to.prices.items ++ ps)
          (prices_from new old.rule (suc old.number) (before_next old.before line) er one after el rest);
    }

-- ---- a line that goes on

module _ (old : Rounder) (mid : Rounder) (bytes : List ℕ) (same : mid.rule ≡ old.rule) (number : mid.number ≡ old.number) (before : mid.before ≡ old.before)
    (held : mid.line.items ≡ old.line.items ++ bytes) where
  all_bytes : (piece rest : List ℕ) → old.line.items ++ ((bytes ++ piece) ++ rest) ≡ mid.line.items ++ (piece ++ rest)
  all_bytes piece rest =
      ap (λ (t : List ℕ). old.line.items ++ t) (append_assoc bytes piece rest) ∙ sym (append_assoc old.line.items bytes (piece ++ rest))
      ∙ ap (λ (t : List ℕ). t ++ (piece ++ rest)) (sym held)

  text_held : (piece rest : List ℕ) → rounded_with old ((bytes ++ piece) ++ rest) ≡ rounded_with mid (piece ++ rest)
  text_held piece rest =
      ap (λ (t : List ℕ). lines_text (rounded_lines old.rule old.before (raw_lines t))) (all_bytes piece rest)
      ∙ ap (λ (p : PriceRule). lines_text (rounded_lines p old.before (raw_lines (mid.line.items ++ (piece ++ rest))))) (sym same)
      ∙ ap (λ n. lines_text (rounded_lines mid.rule n (raw_lines (mid.line.items ++ (piece ++ rest))))) (sym before)

  prices_held : (piece rest : List ℕ) → prices_with old ((bytes ++ piece) ++ rest) ≡ prices_with mid (piece ++ rest)
  prices_held piece rest =
      ap (λ (t : List ℕ). lines_changes old.rule old.number old.before (raw_lines t)) (all_bytes piece rest)
      ∙ ap (λ (p : PriceRule). lines_changes p old.number old.before (raw_lines (mid.line.items ++ (piece ++ rest)))) (sym same)
      ∙ ap (λ n. lines_changes mid.rule n old.before (raw_lines (mid.line.items ++ (piece ++ rest)))) (sym number)
      ∙ ap (λ n. lines_changes mid.rule mid.number n (raw_lines (mid.line.items ++ (piece ++ rest)))) (sym before)

  -- the bytes are held, and what follows them is rounded
  pub held_before : (piece : List ℕ) (new : Rounder) (from to : RoundedText) → RoundsOn mid piece new [] from to → RoundsOn old (bytes ++ piece) new [] from to
  held_before piece new from to rounds = record {
    holds = rounds.holds;
    text = λ rest. ap (λ (t : List ℕ). from.text.items ++ t) (text_held piece rest) ∙ rounds.text rest;
    prices = λ rest. ap (λ (ps : List PlainRoundedPrice). plain_changes from.prices.items ++ ps) (prices_held piece rest) ∙ rounds.prices rest;
  }

  -- the bytes are held
  pub held_alone : (from : RoundedText) → IsRounding old → has_line_end bytes ≡ false → RoundsOn old (bytes ++ []) mid [] from from
  held_alone from is unended = record {
    holds = record {
      line = ap has_line_end held ∙ list_any-append (λ b. eqb b 10) old.line.items bytes ∙ ap (λ v. v || has_line_end bytes) is.line ∙ unended;
      before = let counted = is.before in omega (arith, counted, before, number);
    };
    text = λ rest. ap (λ (t : List ℕ). from.text.items ++ t) (text_held [] rest);
    prices = λ rest. ap (λ (ps : List PlainRoundedPrice). plain_changes from.prices.items ++ ps) (prices_held [] rest);
  }

-- ---- pieces

pub nothing_rounded : (r : Rounder) (piece behind : List ℕ) (from : RoundedText) → IsRounding r → behind ≡ piece → RoundsOn r piece r behind from from
nothing_rounded r piece behind from is same =
    subst (λ (t : List ℕ). RoundsOn r piece r t from from) (sym same) (record { holds = is; text = λ rest. refl; prices = λ rest. refl })

-- one more line of the piece
pub line_rounded : (old mid new : Rounder) (piece behind line next : List ℕ) (from between to : RoundedText) → behind ≡ line ++ next
    → RoundsOn old piece mid behind from between → RoundsOn mid line new [] between to → RoundsOn old piece new next from to
line_rounded old mid new piece behind line next from between to split before more =
    let joined : (rest : List ℕ) → behind ++ rest ≡ line ++ (next ++ rest) = λ rest. ap (λ (t : List ℕ). t ++ rest) split ∙ append_assoc line next rest in
    record {
      holds = more.holds;
      text = λ rest. before.text rest ∙ ap (λ (t : List ℕ). between.text.items ++ rounded_with mid t) (joined rest) ∙ more.text (next ++ rest);
      prices = λ rest.
          before.prices rest ∙ ap (λ (t : List ℕ). plain_changes between.prices.items ++ prices_with mid t) (joined rest) ∙ more.prices (next ++ rest);
    }

-- ---- the last line

one_text : (rule : PriceRule) (before : ℕ) (a t0 t1 : List ℕ) (significant is_bid : Bool) → significant ≡ is_significant (line_words (blank_returns a))
    → is_bid ≡ (leb 3 before && significant) → t1 ≡ t0 ++ (if is_bid then with_rounded rule a else a)
    → t0 ++ lines_text (rounded_lines rule before (record { bytes = a; ended = false } ∷ [])) ≡ t1
one_text rule before a t0 t1 significant is_bid es ei e1 = grind (arith, common_steps, append-nil)

one_change : (rule : PriceRule) (number before : ℕ) (a : List ℕ) (p0 p1 : List PlainRoundedPrice) (significant is_bid : Bool)
    → significant ≡ is_significant (line_words (blank_returns a)) → is_bid ≡ (leb 3 before && significant)
    → p1 ≡ p0 ++ (if is_bid then change_by number (second_word a) (replacement rule (second_word a)) else [])
    → p0 ++ lines_changes rule number before (record { bytes = a; ended = false } ∷ []) ≡ p1
one_change rule number before a p0 p1 significant is_bid es ei e1 = grind (arith, common_steps, append-nil)

last_text : (rule : PriceRule) (before : ℕ) (a t0 t1 : List ℕ) (significant is_bid : Bool) → has_line_end a ≡ false
    → significant ≡ is_significant (line_words (blank_returns a)) → is_bid ≡ (leb 3 before && significant)
    → t1 ≡ t0 ++ (if is_bid then with_rounded rule a else a) → t0 ++ lines_text (rounded_lines rule before (raw_lines a)) ≡ t1
last_text rule before [] t0 t1 significant is_bid h es ei e1 = grind (arith, common_steps)
last_text rule before (b ∷ bs) t0 t1 significant is_bid h es ei e1 =
    ap (λ (ls : List RawLine). t0 ++ lines_text (rounded_lines rule before ls)) (unended_lines b bs h)
    ∙ one_text rule before (b ∷ bs) t0 t1 significant is_bid es ei e1

last_prices : (rule : PriceRule) (number before : ℕ) (a : List ℕ) (p0 p1 : List PlainRoundedPrice) (significant is_bid : Bool) → has_line_end a ≡ false
    → significant ≡ is_significant (line_words (blank_returns a)) → is_bid ≡ (leb 3 before && significant)
    → p1 ≡ p0 ++ (if is_bid then change_by number (second_word a) (replacement rule (second_word a)) else [])
    → p0 ++ lines_changes rule number before (raw_lines a) ≡ p1
last_prices rule number before [] p0 p1 significant is_bid h es ei e1 = grind (arith, common_steps)
last_prices rule number before (b ∷ bs) p0 p1 significant is_bid h es ei e1 =
    ap (λ (ls : List RawLine). p0 ++ lines_changes rule number before ls) (unended_lines b bs h)
    ∙ one_change rule number before (b ∷ bs) p0 p1 significant is_bid es ei e1

pub on_ok_both : {T E P Q S : Type 0} (r : Result T E) → (P → Q → S) → OnOk r P → OnOk r Q → OnOk r S
on_ok_both (Ok x) f p q = f p q
on_ok_both (Err e) f p q = tt

pub last_line : (r : Rounder) (from to : RoundedText) (significant is_bid : Bool) → IsRounding r
    → significant ≡ is_significant (line_words (blank_returns r.line.items)) → is_bid ≡ (leb 3 r.before && significant)
    → to.text.items ≡ from.text.items ++ (if is_bid then with_rounded r.rule r.line.items else r.line.items)
    → plain_changes to.prices.items ≡ plain_changes from.prices.items
    ++ (if is_bid then change_by r.number (second_word r.line.items) (replacement r.rule (second_word r.line.items)) else [])
    → RoundsAll r from to
last_line r from to significant is_bid is es ei et ep = record {
  text = ap (λ (t : List ℕ). from.text.items ++ lines_text (rounded_lines r.rule r.before (raw_lines t))) (append-nil r.line.items)
      ∙ last_text r.rule r.before r.line.items from.text.items to.text.items significant is_bid is.line es ei et;
  prices = ap (λ (t : List ℕ). plain_changes from.prices.items ++ lines_changes r.rule r.number r.before (raw_lines t)) (append-nil r.line.items)
      ∙ last_prices r.rule r.number r.before r.line.items (plain_changes from.prices.items) (plain_changes to.prices.items) significant is_bid is.line es ei ep;
}

-- ---- a whole text

module _ (rule : PriceRule) (text : List ℕ) (first last : Rounder) (none some all : RoundedText) (rounds : RoundsOn first text last [] none some)
    (ends : RoundsAll last some all) where
  pub whole_text : none.text.items ≡ [] → ((t : List ℕ) → rounded_with first t ≡ rounded_text rule t) → all.text.items ≡ rounded_text rule text
  whole_text empty is = sym (ap (rounded_text rule) (sym (append-nil text)) ∙ sym (is (text ++ []))
      ∙ ap (λ (t : List ℕ). t ++ rounded_with first (text ++ [])) (sym empty) ∙ rounds.text [] ∙ ends.text)

  pub whole_prices : none.prices.items ≡ [] → ((t : List ℕ) → prices_with first t ≡ rounded_prices rule t)
      → plain_changes all.prices.items ≡ rounded_prices rule text
  whole_prices empty is = sym (ap (rounded_prices rule) (sym (append-nil text)) ∙ sym (is (text ++ []))
      ∙ ap (λ (ps : List _). plain_changes ps ++ prices_with first (text ++ [])) (sym empty) ∙ rounds.prices [] ∙ ends.prices)
