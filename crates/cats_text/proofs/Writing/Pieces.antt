-- A text that is sent in pieces: what was sent is its beginning, and the page holds its next bytes.
use Rattle.cats_text.proofs.Common.{rules, arith, ◌≡◌, ◌<◌, ◌≤◌, ◌+◌, ◌-◌, ◌^◌, ◌++◌, ◌∷◌, ℕ, List, [], length, take, drop, decimal, Option, Some, Result, Err}
use Rattle.cats_text.proofs.Common.{sym, ap, ◌∙◌, subst, IsErrAnd, take-add, Appends-trans, length-decimal-le, drop-drop, take-append-le, drop-append-le}
use Rattle.cats_text.proofs.Common.{length-drop, err_from_is_err_and, Appends, slice_get, AreAbove, AreBelow, IsRising, PlainBid, PlainFile, IsPlainFile}
use Rattle.cats_text.proofs.Common.{bid_text, bids_text, header_text, headers_text, inner_of, Sends, SendsPart, SendFault, Watched, common_steps}
use Rattle.cats_text.proofs.Common.{length-append}
use Rattle.cats_text.proofs.Writing.BidTexts.{bid_at, bids_text_on}

-- ---- what is sent, and what is held

-- `count` bytes were sent, `before` of them with earlier pieces
module _ (before count : ℕ) (page rest whole : List ℕ) (later : before ≤ count) (held : count ≤ before + length page)
    (next : page ++ rest ≡ drop before whole) where
  behind : before + (count - before) ≡ count
  behind = omega arith

  piece : take (count - before) (drop before whole) ≡ take (count - before) page
  piece = ap (take (count - before)) (sym next) ∙ take-append-le (count - before) page rest (omega arith)

  pub sent_on : (a b c : Option (List ℕ)) → Appends a b (take before whole) → Appends b c (take (count - before) page) → Appends a c (take count whole)
  sent_on a b c first more = grind (arith, common_steps, Appends-trans, behind, piece, take-add)

  pub left_on : drop (count - before) page ++ rest ≡ drop count whole
  left_on =
      sym (drop-append-le (count - before) page rest (omega arith)) ∙ ap (drop (count - before)) next ∙ drop-drop (count - before) before whole
      ∙ ap (λ (n : ℕ). drop n whole) behind

  pub within_on : before ≤ length whole → count ≤ length whole
  within_on inside = omega (arith, length-append page rest, ap length next, length-drop before whole)

-- one more line is held
pub line_held : (goods : ℕ) (bids : List PlainBid) (number : ℕ) (bid : PlainBid) (before count : ℕ) (page left new whole : List ℕ)
    → slice_get bids number ≡ Some bid → before ≤ count → count ≤ before + length page
    → page ++ bids_text goods number (drop number bids) ≡ drop before whole → left ≡ drop (count - before) page
    → new ≡ left ++ bid_text goods number bid → new ++ bids_text goods (number + 1) (drop (number + 1) bids) ≡ drop count whole
line_held goods bids number bid before count page left new whole there later held next rest more =
    let now : left ++ bids_text goods number (drop number bids) ≡ drop count whole = search (rules, left_on) in
    bids_text_on goods bids number bid left new (drop count whole) there now more

-- the writer failed in a piece
pub failed_in_piece : {W : Type 0} (contents : W → Option (List ℕ)) (a b c : Watched W) (before : ℕ) (page piece rest whole : List ℕ) (fault : SendFault)
    → piece ≡ page → page ++ rest ≡ drop before whole → before ≤ length whole → Appends (contents (inner_of a)) (contents (inner_of b)) (take before whole)
    → before ≤ fault.written → SendsPart contents b c piece (fault.written - before)
    → (answer : Result (Unit {0}) SendFault) → IsErrAnd answer (λ told. told ≡ fault) → Sends contents a c whole answer
failed_in_piece contents a b c before page piece rest whole fault same next inside first later part_of answer is =
    let part = subst (λ (p : List ℕ). SendsPart contents b c p (fault.written - before)) same part_of in
    let told = err_from_is_err_and answer is in
    let only : answer ≡ Err fault = told.1 ∙ ap (λ (f : SendFault). Err f) told.2 in
    let held : fault.written ≤ before + length page = let within = part.within in omega arith in
    subst (λ (r : Result (Unit {0}) SendFault). Sends contents a c whole r) (sym only) (record {
      within = within_on before fault.written page rest whole later held next inside;
      appended = sent_on before fault.written page rest whole later held next _ _ _ first part.appended;
      failed = part.failed;
    })

-- ---- how long lines are

-- numbers that rise above k and stay below G
rising_within : (G k : ℕ) (xs : List ℕ) → AreAbove k xs → IsRising xs → AreBelow G xs → k < G → length xs + k < G
rising_within G k [] above rising below start = omega arith
rising_within G k (x ∷ xs) above rising below start = grind (arith, common_steps, (rising_within G x xs rising.0 rising.1 below.1 below.0))

-- a bundle has at most as many goods as the file
pub goods_within : (G : ℕ) (xs : List ℕ) → IsRising xs → AreBelow G xs → length xs ≤ G
goods_within G [] rising below = omega arith
goods_within G (x ∷ xs) rising below = grind (arith, common_steps, rising_within)

pub bundle_within : (file : PlainFile) (i : ℕ) (bid : PlainBid) → IsPlainFile file → slice_get file.bids i ≡ Some bid → length bid.goods ≤ 4096
bundle_within file i bid facts is = grind (arith, common_steps, bid_at, goods_within)

header_line_short : (keyword : List ℕ) (n : ℕ) → n < 2 ^ 64 → length keyword ≤ 8 → length (header_text keyword n) ≤ 30
header_line_short keyword n small short =
    let digits : length (decimal n) ≤ 20 = length-decimal-le 20 n (omega arith) (omega arith) (omega arith) in
    grind (arith, length-append)

three_short : (a b c : List ℕ) → length a ≤ 30 → length b ≤ 30 → length c ≤ 30 → length (a ++ b ++ c) ≤ 128
three_short a b c short_a short_b short_c = grind (arith, length-append)

pub headers_short : (goods bids dummy : ℕ) → goods < 2 ^ 64 → bids < 2 ^ 64 → dummy < 2 ^ 64 → length (headers_text goods bids dummy) ≤ 128
headers_short goods bids dummy g b d = search (rules, three_short, header_line_short)
