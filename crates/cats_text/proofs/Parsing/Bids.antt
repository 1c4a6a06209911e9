-- The words of a bid line: the parser and the definitions agree.
use Rattle.cats_text.proofs.Common.{rules, ◌≡◌, ℕ, ◌-◌, ◌<◌, ◌≤◌, Bool, true, false, not, ◌&&◌, ◌||◌, cond, eqb, ltb, leb, List, [], ◌∷◌, length, refl, ap, ◌∙◌}
use Rattle.cats_text.proofs.Common.{None, arith, Option, Err, ltb-false, lt-ltb, leb-true, leb-false, eq-eqb, ne_eqb, both_ways, or_left, and_parts, list_any}
use Rattle.cats_text.proofs.Common.{slice_get, number_of, is_too_large, is_too_fine, price_of, whole_part, places, has_place_from, six_places, digits_alone}
use Rattle.cats_text.proofs.Common.{GREATEST_PRICE, line_number, header_value, word_fault, when, bid_of, Progress, Reading, number_read, price_read}
use Rattle.cats_text.proofs.Common.{price_parts, with_price, is_some_bid, Kind, Decimal, Keyword, Number, End, Other, Header, Second, Later, MAX_BIDS}
use Rattle.cats_text.proofs.Common.{common_steps}
use Rattle.cats_text.specs.declared.read_fault.Kind.TheVariants as kinds
use Rattle.cats_text.specs.declared.word.Word.{Word}
use Rattle.cats_text.specs.declared.word.Word.TheVariants.{Decimal as Fraction}
use Rattle.cats_text.proofs.Words.Places.{digit_bounds, places_from, places-six, places_below_one, place_not_zero}
use Rattle.cats_text.proofs.Words.Kept.{Summarises, Holds, whole-digits, whole-point, places-point}
use Rattle.cats_text.proofs.Words.Tests.{IsTested}
use Rattle.cats_text.proofs.Parsing.States.{IsAt, WordFollows, with_words}
use Rattle.cats_text.proofs.Parsing.Headers.{holds_le, holds_same}
use Rattle.cats_text.proofs.Parsing.NumbersTaken.{taken}

-- one test of the definitions against one of the parser
pub follow_test : (lines : List (List (List ℕ))) (before : List (List ℕ)) (w : List ℕ) (b c : Bool) (kind : Kind) (r : Reading) (rest : Option Kind)
    → word_fault lines before w ≡ when c kind rest → b ≡ c → (b ≡ false → word_fault lines before w ≡ rest → WordFollows lines before w r)
    → WordFollows lines before w (cond b (Err kind) r)
follow_test lines before w b c kind r rest fault same next = grind (arith, common_steps)

-- a fault that the definitions name too
pub fault_named : (lines : List (List (List ℕ))) (before : List (List ℕ)) (w : List ℕ) (c : Bool) (kind : Kind) (rest : Option Kind)
    → word_fault lines before w ≡ when c kind rest → c ≡ true → WordFollows lines before w (Err kind)
fault_named lines before w c kind rest fault e = fault ∙ ap (λ x. when x kind rest) e

-- a test that a word passes
pub passes : (lines : List (List (List ℕ))) (before : List (List ℕ)) (w : List ℕ) (c : Bool) (kind : Kind) (rest : Option Kind)
    → word_fault lines before w ≡ when c kind rest → c ≡ false → word_fault lines before w ≡ rest
passes lines before w c kind rest fault e = fault ∙ ap (λ x. when x kind rest) e

-- ---- the number

none_due : (bids count : ℕ) → eqb (bids - count) 0 ≡ leb bids count
none_due bids count = grind (arith, common_steps, eq-eqb, leb-false, leb-true, ne_eqb)

number_follows : (g b d : List (List ℕ)) (lines : List (List (List ℕ))) (w : List ℕ) (v : ℕ) (p : Progress) → Summarises w (Number v)
    → IsAt (g ∷ b ∷ d ∷ lines) [] p → WordFollows (g ∷ b ∷ d ∷ lines) [] w (number_read p (Number v))
number_follows g b d lines w v p t at =
    let bids : p.header.bids ≡ header_value b = ap (λ (h : Header). h.bids) at.header in
    let small : p.header.bids ≤ MAX_BIDS = at.bids in
    let is : word_fault (g ∷ b ∷ d ∷ lines) [] w ≡ when (leb (header_value b) (length lines)) kinds.ExtraBid
    (when (leb (header_value b) (number_of w)) kinds.BidNumber (when (list_any (λ l. eqb (line_number l) (number_of w)) lines) kinds.RepeatedNumber None)) =
    ap (λ x. when (not x) kinds.NotANumber
    (when (leb (header_value b) (length lines)) kinds.ExtraBid
    (when (leb (header_value b) (number_of w)) kinds.BidNumber (when (list_any (λ l. eqb (line_number l) (number_of w)) lines) kinds.RepeatedNumber None))))
    t.0 in
    follow_test (g ∷ b ∷ d ∷ lines) [] w _ _ kinds.ExtraBid _ _ is (ap (λ x. eqb x 0) at.due ∙ none_due p.header.bids (length lines)
    ∙ ap (λ x. leb x (length lines)) bids)
    (λ _ is. follow_test (g ∷ b ∷ d ∷ lines) [] w _ _ kinds.BidNumber _ _ is (holds_le p.header.bids v (number_of w) (omega arith) t.1
    ∙ ap (λ x. leb x (number_of w)) bids)
    (λ below is. let l : v < p.header.bids = leb-false p.header.bids v below in let same : v ≡ number_of w = holds_same v (number_of w) (omega arith) t.1 in
    follow_test (g ∷ b ∷ d ∷ lines) [] w _ _ kinds.RepeatedNumber _ _ is (ap (λ s. is_some_bid (slice_get s v)) at.slots
    ∙ taken (λ l. p.keep (bid_of p.header.goods l)) lines v ∙ ap (λ x. list_any (λ l. eqb (line_number l) x) lines) same)
    (λ _ is. (
      is,
      with_words (g ∷ b ∷ d ∷ lines) [] (w ∷ []) p Second (record { number = v; price = 0; dummy = None }) p.goods at refl refl
          (same, refl, at.draft),
    ))))

pub bid_first : (g b d : List (List ℕ)) (lines : List (List (List ℕ))) (w : List ℕ) (s : Word) (p : Progress) → IsTested w s → Summarises w s
    → IsAt (g ∷ b ∷ d ∷ lines) [] p → WordFollows (g ∷ b ∷ d ∷ lines) [] w (number_read p s)
bid_first g b d lines w (Number v) p tested t at = number_follows g b d lines w v p t at
bid_first g b d lines w _ p tested t at = fault_named (g ∷ b ∷ d ∷ lines) [] w _ _ _ refl (ap not tested.number)

-- ---- the price

large_same : (v n : ℕ) (x y : Bool) → Holds v n → x ≡ y → (ltb GREATEST_PRICE v || (eqb v GREATEST_PRICE && x))
    ≡ (ltb GREATEST_PRICE n || (eqb n GREATEST_PRICE && y))
large_same v n x y h e = grind (arith, common_steps, lt-ltb, or_left)

not_large : (v : ℕ) (x : Bool) → (ltb GREATEST_PRICE v || (eqb v GREATEST_PRICE && x)) ≡ false → v ≤ GREATEST_PRICE
not_large v x h = grind (arith, common_steps, ltb-false)

-- the whole part, the millionths and what is finer, as the parser holds them, of a price word
pub record IsPriced (w : List ℕ) (v m : ℕ) (fine : Bool) : Type 0 where
  pub whole : Holds v (number_of (whole_part w))
  pub more : (fine || ltb 0 m) ≡ has_place_from 0 (places w)
  pub finer : fine ≡ is_too_fine w
  pub millionths : m ≡ number_of (six_places (places w))
  pub below : m ≤ 1000000

price_follows : (lines : List (List (List ℕ))) (n w : List ℕ) (p : Progress) (v m : ℕ) (fine : Bool) → IsPriced w v m fine
    → word_fault lines (n ∷ []) w ≡ when (is_too_large w) kinds.TooLarge (when (is_too_fine w) kinds.TooFine None)
    → ((x : ℕ) → x ≡ price_of w → IsAt lines (n ∷ w ∷ []) (record p { column = Later; draft = record p.draft { price = x } }))
    → WordFollows lines (n ∷ []) w (with_price p (price_parts v m fine))
price_follows lines n w p v m fine i fault next = grind (arith, common_steps, fault_named, holds_same, large_same, not_large, passes)

places-digits : (w : List ℕ) → digits_alone w ≡ true → places w ≡ []
places-digits [] h = refl
places-digits (a ∷ w) h = grind (arith, common_steps, and_parts, digit_bounds, ne_eqb, (places-digits w))

priced_number : (w : List ℕ) (v : ℕ) → Summarises w (Number v) → IsPriced w v 0 false
priced_number [] v t = absurd (both_ways false refl t.0)
priced_number (a ∷ w) v t = grind (arith, common_steps, places-digits, whole-digits)

priced_fraction : (w : List ℕ) (d : Decimal) → Summarises w (Fraction d) → IsPriced w d.whole d.millionths d.fine
priced_fraction w d f = grind (arith, common_steps, both_ways, place_not_zero, places-point, places-six, places_below_one, places_from, whole-point)

-- nothing but the price has come
behind_price : (g b d : List (List ℕ)) (lines : List (List (List ℕ))) (n w : List ℕ) (p : Progress) → IsAt (g ∷ b ∷ d ∷ lines) (n ∷ []) p
    → (x : ℕ) → x ≡ price_of w → IsAt (g ∷ b ∷ d ∷ lines) (n ∷ w ∷ []) (record p { column = Later; draft = record p.draft { price = x } })
behind_price g b d lines n w p at x e = grind (arith, common_steps, both_ways)

pub bid_second : (g b d : List (List ℕ)) (lines : List (List (List ℕ))) (n w : List ℕ) (s : Word) (p : Progress) → IsTested w s → Summarises w s
    → IsAt (g ∷ b ∷ d ∷ lines) (n ∷ []) p → WordFollows (g ∷ b ∷ d ∷ lines) (n ∷ []) w (price_read p s)
bid_second g b d lines n w (Number v) p tested t at = price_follows (g ∷ b ∷ d ∷ lines) n w p v 0 false (priced_number w v t) (search (rules, passes))
    (behind_price g b d lines n w p at)
bid_second g b d lines n w (Fraction e) p tested t at = elim (eqb e.decimals 0) as (λ x. eqb e.decimals 0 ≡ x
    → WordFollows (g ∷ b ∷ d ∷ lines) (n ∷ []) w (cond x (Err kinds.NotANumber) (with_price p (price_parts e.whole e.millionths e.fine)))) [
      | true ↦ search (rules, fault_named)
      | false ↦ λ (q : eqb e.decimals 0 ≡ false). price_follows (g ∷ b ∷ d ∷ lines) n w p e.whole e.millionths e.fine (priced_fraction w e t)
          (passes (g ∷ b ∷ d ∷ lines) (n ∷ []) w _ _ _ refl (ap not (tested.price ∙ ap not q))) (behind_price g b d lines n w p at)
    ] refl
bid_second g b d lines n w (Keyword j k) p tested t at = fault_named (g ∷ b ∷ d ∷ lines) (n ∷ []) w _ _ _ refl (ap not tested.price)
bid_second g b d lines n w End p tested t at = fault_named (g ∷ b ∷ d ∷ lines) (n ∷ []) w _ _ _ refl (ap not tested.price)
bid_second g b d lines n w Other p tested t at = fault_named (g ∷ b ∷ d ∷ lines) (n ∷ []) w _ _ _ refl (ap not tested.price)
