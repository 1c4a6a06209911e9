-- What the commands on one or two files print: numbers, prices, and words of ours. Its status is 0 or 1. `simp` computes that of each text by
-- its pieces, so a new command needs a lemma only for a piece of a new kind.
use Rattle.cats_cmd.proofs.Common.{◌≡◌, ℕ, suc, ◌+◌, ◌/◌, ◌%◌, ◌<◌, ◌≤◌, ◌&&◌, Bool, true, false, List, [], ◌∷◌, ◌++◌, cond, arith, refl, Ok, Err, Result}
use Rattle.cats_cmd.proofs.Common.{subst, nat_le, unwrap_or, list_all, and_parts, leb-true, nat_tests, All-take, diff_text, goods_rows, difference_text}
use Rattle.cats_cmd.proofs.Common.{side_text, explanation_text, reason_cells, hint_of_kind, before_word, behind_word, shown_bytes, name_of_kind, bundle_text}
use Rattle.cats_cmd.proofs.Common.{list_cell, number_cell, price_cell, Outcome, Prints, diff_outcome, outcome_of_difference, outcome_of_verdict, outcome_unless}
use Rattle.cats_cmd.proofs.Common.{text_unless_refused, value_text, PlainBid, PlainFile, Difference, NoDifference, Side, Exactly, PlainPlace, behind_point}
use Rattle.cats_cmd.proofs.Common.{bids_text, digit_at, places_text, six_digits, with_place, without_zeros, Kind, PlainDifferences, PlainReason, Zero}
use Rattle.cats_cmd.proofs.Common.{allocation_text, AllocationVerdict, Revenue, PlainRow, if_none, AreBytes, escaped, text_of_place, outcome_by, outcome_of}
use Rattle.cats_cmd.proofs.Common.{PlainRequest, amount_text, unit_line, Hint, first_hint, hint_of, option_map_or, rows_of, sentence}
use Rattle.cats_cmd.proofs.Common.{Task, append_assoc, codes, decimal, Option, Some, None}
use Rattle.cats_text.specs.declared.read_fault.Kind.TheVariants as kinds
use Rattle.commands.specs.declared.fault.rows.Hint.TheVariants as hints
use Rattle.requests.specs.declared.task.Task.TheVariants.{Check}
use Rattle.cats_cmd.proofs.PrintableTexts.{bytes_from, of_each}
use Rattle.cats_cmd.proofs.ShownTexts.{Ours, Shown, is_ours, number_ours, ours, path_shown, then}

-- ---- prices

zeros_left_out : (ds : List ℕ) → Ours ds → Ours (without_zeros ds)
zeros_left_out [] e = refl
zeros_left_out (b ∷ bs) e = let parts = and_parts (is_ours b) (list_all is_ours bs) e in placed b (without_zeros bs) parts.0 (zeros_left_out bs parts.1)
  where
    placed : (b : ℕ) (cs : List ℕ) → is_ours b ≡ true → Ours cs → Ours (with_place b cs)
    placed b [] e f = simp (of_each, e)
    placed b (c ∷ cs) e f = rw e f

pointed : (ds : List ℕ) → Ours ds → Ours (behind_point ds)
pointed [] e = refl
pointed (b ∷ bs) e = e

digit : (d : ℕ) → d < 10 → is_ours (48 + d) ≡ true
digit d l = grind (arith, nat_tests)

places : (n : ℕ) → Ours (places_text n)
places n =
    let at : (place : ℕ) → is_ours (digit_at n place) ≡ true = λ place. digit (n / place % 10) (omega arith) in
    pointed (without_zeros (six_digits n)) (zeros_left_out (six_digits n) (simp at))

-- ---- the pieces of the texts

bundle : (goods : List ℕ) → Ours (bundle_text goods)
bundle [] = refl
bundle (g ∷ goods) = simp (of_each, number_ours)

list : (numbers : List ℕ) → Ours (list_cell numbers)
list [] = refl
list (n ∷ numbers) = simp (of_each, number_ours)

number_if_any : (n : Option ℕ) → Ours (number_cell n)
number_if_any None = refl
number_if_any (Some n) = number_ours n

price_if_any : (p : Option ℕ) → Ours (price_cell p)
price_if_any None = refl
price_if_any (Some p) = simp (of_each, number_ours, places)

ruleset pieces = (of_each, number_ours, places, bundle, list, number_if_any, price_if_any)

-- of `cats show` and `cats normalise`
bid_lines : (goods n : ℕ) (bids : List PlainBid) → Ours (bids_text goods n bids)
bid_lines goods n [] = refl
bid_lines goods n (b ∷ bids) = simp (pieces, bid_lines goods (suc n) bids)

-- of `cats compare`
side : (s : Side) → Ours (side_text s)
side (Exactly p) = simp pieces
side s = simp pieces

-- of `cats explain`
reason : (r : PlainReason) → Ours (reason_cells r)
reason Zero = refl
reason r = simp pieces

-- of `cats diff`
goods_if_any : (numbers : Option (ℕ × ℕ)) → Ours (goods_rows numbers)
goods_if_any None = refl
goods_if_any (Some numbers) = simp pieces

-- of `cats lp`
text_if_none : (rows : List PlainRow) (text : List ℕ) → Ours text → Ours (if_none rows text)
text_if_none [] text is = is
text_if_none (row ∷ rows) text is = refl

unit : (exact : Bool) → Ours (unit_line exact)
unit true = refl
unit false = refl

amount : (exact : Bool) (price : ℕ) → Ours (amount_text exact price)
amount true price = number_ours price
amount false price = simp pieces

ruleset texts = (pieces, bid_lines, side, reason, goods_if_any, text_if_none, unit, amount)

-- of `cats fault`
hint_by_kind : (kind : Kind) → Ours (hint_of_kind kind)
hint_by_kind kinds.Header = refl
hint_by_kind kind = refl

hint_by_row : (h : Hint) → Ours (sentence h)
hint_by_row hints.Gzip = refl
hint_by_row h = refl

hint_of_either : (found : Option Hint) (other : List ℕ) → Ours other → Ours (option_map_or sentence found other)
hint_of_either None other is = is
hint_of_either (Some h) other is = hint_by_row h

hint : (place : PlainPlace) → Ours (hint_of place)
hint place = hint_of_either (first_hint (rows_of place.kind) place) (hint_of_kind place.kind) (hint_by_kind place.kind)

name : (kind : Kind) → Ours (name_of_kind kind)
name kinds.Header = refl
name kind = refl

before : (word : List ℕ) → Ours (before_word word)
before [] = refl
before (b ∷ bs) = refl

-- ---- all that is printed

-- what is printed can be shown, with the status 0 or 1
abbrev pub is_printed : Outcome → Bool
is_printed (Prints status text) = nat_le status 1 && list_all is_ours text
is_printed outcome = true

pub printed : (outcome : Outcome) (status : ℕ) (text : List ℕ) → is_printed outcome ≡ true → outcome ≡ Prints status text → (status ≤ 1) × Shown text
printed outcome status text e is =
    let parts = and_parts (nat_le status 1) (list_all is_ours text) (rw is at e) in (leb-true status 1 parts.0, ours text parts.1)

is_printed-cond : (t : Bool) (one other : Outcome) → is_printed (cond t one other) ≡ cond t (is_printed one) (is_printed other)
is_printed-cond true one other = refl
is_printed-cond false one other = refl

is_printed-unless : (missing : Option ℕ) (outcome : Outcome) → is_printed outcome ≡ true → is_printed (outcome_unless missing outcome) ≡ true
is_printed-unless None outcome e = e
is_printed-unless (Some good) outcome e = refl

is_printed-unless_refused : (refusal : List ℕ → Outcome) (text : List ℕ) (refused : Option (List ℕ)) → is_printed (refusal (unwrap_or refused [])) ≡ true
    → Ours text → is_printed (text_unless_refused refusal text refused) ≡ true
is_printed-unless_refused refusal text None e is = is
is_printed-unless_refused refusal text (Some goods) e is = e

verdict_printed : (verdict : Result AllocationVerdict ℕ) → is_printed (outcome_of_verdict verdict) ≡ true
verdict_printed (Err bid) = refl
verdict_printed (Ok (Revenue millionths)) = simp texts
verdict_printed (Ok verdict) = simp texts

pub difference_printed : (d : Difference) → is_printed (outcome_of_difference d) ≡ true
difference_printed NoDifference = refl
difference_printed d = simp texts

one_at_most : (none : Bool) → nat_le (cond none 0 1) 1 ≡ true
one_at_most true = refl
one_at_most false = refl

pub differences_printed : (left right : PlainFile) (d : PlainDifferences) → is_printed (diff_outcome (left, right, d)) ≡ true
differences_printed left right d = simp (texts, one_at_most)

ruleset outcomes = (texts, is_printed-cond, is_printed-unless, is_printed-unless_refused, verdict_printed)

-- the texts of all commands are of these pieces
outcome_printed : (task : Task) (request : PlainRequest) (bids : List ℕ) (met : Bool) (file : PlainFile)
    → is_printed (outcome_by task request bids met file) ≡ true
outcome_printed Check request bids met file = simp texts
outcome_printed task request bids met file = simp outcomes

pub command_printed : (request : PlainRequest) (bids : List ℕ) (met : Bool) (file : PlainFile)
    → is_printed (outcome_of request bids met file) ≡ true
command_printed request = outcome_printed request.task request

-- ---- any verdict, difference, reasons and differences

pub value_shown : (file : PlainFile) (goods : List ℕ) → Shown (value_text file goods)
value_shown file goods = ours (value_text file goods) (simp texts)

pub revenue_shown : (verdict : AllocationVerdict) → Shown (allocation_text verdict)
revenue_shown verdict = (printed _ _ _ (verdict_printed (Ok verdict)) refl).1

pub difference_shown : (d : Difference) → Shown (difference_text d)
difference_shown d = (printed _ _ _ (difference_printed d) refl).1

pub explanation_shown : (file : PlainFile) (reasons : List PlainReason) → Shown (explanation_text file reasons)
explanation_shown file reasons = ours (explanation_text file reasons) (simp texts)

pub diff_shown : (f g : PlainFile) (d : PlainDifferences) → Shown (diff_text f g d)
diff_shown f g d = (printed _ _ _ (differences_printed f g d) refl).1

pub place_shown : (path : List ℕ) (column : ℕ) (place : PlainPlace) → AreBytes path → AreBytes place.text → Shown (text_of_place path column place)
place_shown path column place bytes word =
    let shown = shown_bytes place.text in
    let front : List ℕ = codes ":" ++ decimal place.line ++ codes ":" ++ decimal column ++ codes ": " ++ name_of_kind place.kind
    ++ before_word place.text in
    let back : List ℕ = behind_word place.text ++ codes "\n" in
    let end : List ℕ = codes "\n" in
    let same : ((((escaped path ++ front) ++ escaped shown) ++ back) ++ hint_of place) ++ end ≡ text_of_place path column place = simp append_assoc in
    subst Shown same (then (then (then (then (then (path_shown path (bytes_from path bytes)) (ours front (simp (pieces, name, before))))
    (path_shown shown (bytes_from shown (All-take (λ b. b < 256) 60 place.text word)))) (ours back (simp pieces)))
    (ours (hint_of place) (hint place))) (ours end refl))
