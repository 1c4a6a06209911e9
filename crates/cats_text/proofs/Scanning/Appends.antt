-- Bytes that come in pieces: what is decided, waits and runs over an append.
use Rattle.cats_text.proofs.Common.{rules, ◌≡◌, ℕ, suc, ◌+◌, ◌≤◌, Bool, true, false, List, [], ◌∷◌, ◌++◌, length, refl, arith, inr, Ok, Err, IfOk, IsOkAnd}
use Rattle.cats_text.proofs.Common.{if◌then◌else◌, settled, settle, ReadFault, Mode, Between, Inside, Reading, word_read, line_read, State, Scan, and_then}
use Rattle.cats_text.proofs.Common.{with_reading, blank_step_at, words_step_at, line_step, byte_step, scan, MeetsBidLine, common_steps}

abbrev ok : State → Scan
ok t = Ok t

abbrev err : ReadFault → Scan
err e = Err e

then_meets : (r : Scan) (t : State) (xs ys : List ℕ) → ((s : State) → scan s xs ≡ Ok t → MeetsBidLine s (xs ++ ys))
    → and_then r (λ s. scan s xs) ≡ Ok t → IsOkAnd r (λ s. MeetsBidLine s (xs ++ ys))
then_meets (Ok s) t xs ys h e = h s e
then_meets (Err fault) t xs ys h e = grind (arith, common_steps)

-- a bid line that is met behind the first bytes is met from their start
pub meets_behind : (s t : State) (xs ys : List ℕ) → scan s xs ≡ Ok t → MeetsBidLine t ys → MeetsBidLine s (xs ++ ys)
meets_behind s t [] ys e m = let same : s ≡ t = cc in rw same m
meets_behind s t (b ∷ xs) ys e m = inr (then_meets (byte_step s b) t xs ys (λ u e'. meets_behind u t xs ys e' m) e)

-- ---- the number of the line

reading-line : (s : State) (m : Mode) (r : Reading) → IfOk (with_reading s m r) (λ t. t.line ≡ s.line)
reading-line s m (Ok p) = refl
reading-line s m (Err kind) = tt

blank-line : (m : Mode) (s : State) → IfOk (blank_step_at m s) (λ t. t.line ≡ s.line)
blank-line (Inside w) s = reading-line s Between (word_read s.progress w)
blank-line _ s = refl

words-line : (m : Mode) (s : State) → IfOk (words_step_at m s) (λ t. t.line ≡ s.line)
words-line Between s = reading-line s Between (line_read s.progress)
words-line _ s = refl

then-line : (r : Scan) (f : State → Scan) (n m : ℕ) → IfOk r (λ t. t.line ≤ n) → ((t : State) → t.line ≤ n → IfOk (f t) (λ u. u.line ≤ m))
    → IfOk (and_then r f) (λ u. u.line ≤ m)
then-line (Ok t) f n m h g = g t h
then-line (Err e) f n m h g = tt

at_most : (r : Scan) (n m : ℕ) → IfOk r (λ t. t.line ≡ n) → n ≤ m → IfOk r (λ t. t.line ≤ m)
at_most (Ok t) n m h le = omega arith
at_most (Err e) n m h le = tt

line_step-line : (s : State) → IfOk (line_step s) (λ u. u.line ≤ suc s.line)
line_step-line s = grind (arith, common_steps, at_most, blank-line, then-line, words-line)

either-line : (test : Bool) (a b : Scan) (n : ℕ) → IfOk a (λ u. u.line ≤ n) → IfOk b (λ u. u.line ≤ n) → IfOk (if test then a else b) (λ u. u.line ≤ n)
either-line true a b n h g = h
either-line false a b n h g = g

byte_step-line : (s : State) (b : ℕ) → IfOk (byte_step s b) (λ u. u.line ≤ suc s.line)
byte_step-line s b = search (rules, either-line, line_step-line, at_most, blank-line)

-- no more lines than bytes come
pub scan-line : (s : State) (bytes : List ℕ) → IfOk (scan s bytes) (λ t. t.line ≤ s.line + length bytes)
scan-line s [] = omega arith
scan-line s (b ∷ bytes) = then-line (byte_step s b) (λ t. scan t bytes) (suc s.line) (s.line + suc (length bytes)) (byte_step-line s b)
    (λ t h. search (rules, up_to, (scan-line t bytes)))
  where
    up_to : (r : Scan) (n m : ℕ) → IfOk r (λ t. t.line ≤ n) → n ≤ m → IfOk r (λ t. t.line ≤ m)
    up_to (Ok t) n m h le = omega arith
    up_to (Err e) n m h le = tt

settle-length : (b : ℕ) (bs decided : List ℕ) → length (settle b bs decided) ≤ suc (length decided)
settle-length b [] decided = grind (arith, common_steps)
settle-length b (c ∷ cs) decided = omega arith

-- no more bytes are decided than come
pub settled-length : (bytes : List ℕ) → length (settled bytes) ≤ length bytes
settled-length [] = omega arith
settled-length (b ∷ bytes) = let rest = settled-length bytes in let more = settle-length b bytes (settled bytes) in omega arith
