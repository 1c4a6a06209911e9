-- `send_piece`: one more piece was sent: what was sent is still the beginning of the text, and the writer still works.
use Rattle.cats_text.proofs.Common.{rules, arith, ◌≡◌, ◌<◌, ◌∷◌, List, [], length, take, drop, false, ℕ, ◌+◌, ◌-◌, Ok, Option, refl, take-add, take-length}
use Rattle.cats_text.proofs.Common.{length-drop, Appends-trans, Appends, failed_to_write}
use Rattle.cats_text.proofs.sending.send_piece.Goals as goal

all_but : (n : ℕ) (text : List ℕ) → take (length text - n) (drop n text) ≡ drop n text
all_but n text = grind (arith, length-drop n text, take-length (drop n text))

one_more_piece : (a b c : Option (List ℕ)) (m n : ℕ) (text : List ℕ)
    → Appends a b (take m text) → Appends b c (take n (take (length text - m) (drop m text))) → Appends a c (take (m + n) text)
one_more_piece a b c m n text first next = search (rules, take-add, Appends-trans, all_but)

took_some : (n : ℕ) (piece : List ℕ) → 0 < n → failed_to_write (Ok n) piece ≡ false
took_some n [] h = refl
took_some n (byte ∷ piece) h = grind arith

pub loop-written-preserved : goal.loop-written-preserved
loop-written-preserved g c = search (rules, all_but, took_some, length-drop, one_more_piece)
