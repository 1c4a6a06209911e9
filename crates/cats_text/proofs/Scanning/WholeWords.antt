-- Whole words at the start of bytes, each read before the byte that ends it.
use Rattle.cats_text.proofs.Common.{rules, ◌≡◌, ◌≢◌, ℕ, ◌+◌, ◌-◌, ◌<◌, ◌≤◌, Bool, true, false, ◌||◌, cond, eqb, ⊎_elim, inl, inr, List, [], ◌∷◌, length, get_or}
use Rattle.cats_text.proofs.Common.{take, drop, refl, sym, ap, ◌∙◌, subst, arith, Ok, Err, IsOkAnd, both_ways, length-drop, drop-drop, is_blank, settled}
use Rattle.cats_text.proofs.Common.{fault_at, IsLeadingToken, ends_word, Progress, Stops, Gives, word_read, Kind, Memory, Bid, Between, Inside, common_steps}
use Rattle.cats_text.specs.Internal.Scanning.{
  State,
  and_then,
  scan,
  byte_step,
  is_before_word,
  IsInBidLine,
  MeetsBidLine,
  IsScanned,
  ScansTo,
  Steps,
  Scans,
}
use Rattle.cats_text.specs.declared.word.Word.{Word}
use Rattle.cats_text.proofs.Scanning.Rests.{settled-other, at_place, scan_byte_at, scanned_then}
use Rattle.cats_text.proofs.Scanning.ManyBytes.{word_scanned, rest_is}

-- where a call stopped, the call that made it does
pub stops_in : (kind : Kind) {N M F G : Type 0} → (N → M) → (F → G) → Stops kind N F → Stops kind M G
stops_in Memory needs reads stop = needs stop
stops_in kind needs reads stop = reads stop

-- in a word, and behind it
abbrev in_word : State → Word → State
in_word s w = record s { mode = Inside w }

abbrev pub behind_word : State → Progress → State
behind_word s p = record s { mode = Between; progress = p }

-- ---- the byte that ends a word

blank_from : (x y : Bool) → (x || y) ≡ true → y ≡ false → x ≡ true
blank_from true y h k = refl
blank_from false y h k = absurd (both_ways y k h)

pub ends_no_return : (b : ℕ) → ends_word b ≡ true → b ≢ 13
ends_no_return b h e = absurd (both_ways (ends_word 13) refl (subst (λ c. ends_word c ≡ true) e h))

line_ends_word : (s : State) (w : Word) (p : Progress) (b : ℕ) → eqb b 10 ≡ true → word_read s.progress w ≡ Ok p
    → byte_step (in_word s w) b ≡ byte_step (behind_word s p) b
line_ends_word s w p b e read = rw (e, read) refl

blank_ends_word : (s : State) (w : Word) (p : Progress) (b : ℕ) → eqb b 10 ≡ false → is_blank b ≡ true → word_read s.progress w ≡ Ok p
    → byte_step (in_word s w) b ≡ byte_step (behind_word s p) b
blank_ends_word s w p b e h read = rw (e, h, read) refl

-- a word may be read before the byte that ends it
byte_ends : (s : State) (w : Word) (p : Progress) (b : ℕ) → ends_word b ≡ true → word_read s.progress w ≡ Ok p
    → byte_step (in_word s w) b ≡ byte_step (behind_word s p) b
byte_ends s w p b ends read = grind (arith, common_steps, blank_ends_word, blank_from, line_ends_word)

line_faults : (s : State) (w : Word) (kind : Kind) (b : ℕ) → eqb b 10 ≡ true → word_read s.progress w ≡ Err kind
    → byte_step (in_word s w) b ≡ Err (fault_at s.line kind)
line_faults s w kind b e read = rw (e, read) refl

blank_faults : (s : State) (w : Word) (kind : Kind) (b : ℕ) → eqb b 10 ≡ false → is_blank b ≡ true → word_read s.progress w ≡ Err kind
    → byte_step (in_word s w) b ≡ Err (fault_at s.line kind)
blank_faults s w kind b e h read = rw (e, h, read) refl

byte_faults : (s : State) (w : Word) (kind : Kind) (b : ℕ) → ends_word b ≡ true → word_read s.progress w ≡ Err kind
    → byte_step (in_word s w) b ≡ Err (fault_at s.line kind)
byte_faults s w kind b ends read = grind (arith, common_steps, blank_faults, blank_from, line_faults)

blank_stays : (s : State) (p : Progress) (b : ℕ) → eqb b 10 ≡ false → is_blank b ≡ true → byte_step (behind_word s p) b ≡ Ok (behind_word s p)
blank_stays s p b e h = rw (e, h) refl

-- ---- the word at the start

-- the byte that ends the word, and what is decided behind it
settled_end : (bytes : List ℕ) (count : ℕ) → count < length bytes → ends_word (get_or bytes count 0) ≡ true → settled (drop count bytes) ≡ get_or bytes count 0
    ∷ settled (drop (count + 1) bytes)
settled_end bytes count within ends = grind (arith, common_steps, at_place, ends_no_return, settled-other)

-- the word is read before the byte that ends it
read_scanned : (s : State) (p : Progress) (bytes : List ℕ) (w : Word) (taken : ℕ) (v : Bool) → is_before_word s.mode ≡ true
    → (token : IsLeadingToken bytes w taken) → word_read s.progress w ≡ Ok p
    → p.stage ≡ s.progress.stage → v ≡ false → IsScanned s (behind_word s p) v bytes (drop token.count bytes)
read_scanned s p bytes w taken v before token read stage e =
    let count : ℕ = token.count in
    let b : ℕ = get_or bytes token.count 0 in
    let later : List ℕ = settled (drop (token.count + 1) bytes) in
    let come : IsScanned s (in_word s w) v bytes (drop token.count bytes) = word_scanned s bytes w count v before token.kept e in
    let split : settled (drop token.count bytes) ≡ b ∷ later = settled_end bytes count token.within token.ends in
    let same : byte_step (in_word s w) b ≡ byte_step (behind_word s p) b = byte_ends s w p b token.ends read in
    let again : MeetsBidLine (behind_word s p) (b ∷ later) → MeetsBidLine (in_word s w) (b ∷ later) =
    ⊎_elim (λ (m : IsInBidLine (behind_word s p)). inl (sym stage ∙ m.0, tt)) (λ (m : IsOkAnd (byte_step (behind_word s p) b) (λ t. MeetsBidLine t later)). inr
    (subst (λ r. IsOkAnd r (λ t. MeetsBidLine t later)) (sym same) m)) in
    record {
      steps = ap (scan (behind_word s p)) split ∙ sym (ap (λ r. and_then r (λ t. scan t later)) same) ∙ sym (ap (scan (in_word s w)) split) ∙ come.steps;
      needs = λ m. come.needs (subst (MeetsBidLine (in_word s w)) (sym split) (again (subst (MeetsBidLine (behind_word s p)) split m)));
      last = come.last;
      going = come.going;
      ended = come.ended;
    }

token_faults : (s : State) (bytes : List ℕ) (w : Word) (taken : ℕ) (kind : Kind) → is_before_word s.mode ≡ true → IsLeadingToken bytes w taken
    → word_read s.progress w ≡ Err kind → scan s (settled bytes) ≡ Err (fault_at s.line kind)
token_faults s bytes w taken kind before token read =
    let come : IsScanned s (in_word s w) false bytes (drop token.count bytes) = word_scanned s bytes w token.count false before token.kept refl in
    search (rules, settled_end, byte_faults)

token_needs : (s : State) (bytes : List ℕ) (w : Word) (taken : ℕ) → is_before_word s.mode ≡ true → IsLeadingToken bytes w taken → s.progress.stage ≡ Bid
    → MeetsBidLine s (settled bytes)
token_needs s bytes w taken before token stage =
    let come : IsScanned s (in_word s w) false bytes (drop token.count bytes) = word_scanned s bytes w token.count false before token.kept refl in
    come.needs (subst (MeetsBidLine (in_word s w)) (sym (settled_end bytes token.count token.within token.ends)) (inl (stage, tt)))

-- and its blank, if it has one
token_taken : (s : State) (p : Progress) (v : Bool) (bytes : List ℕ) (count taken : ℕ) → count < length bytes → ends_word (get_or bytes count 0) ≡ true
    → taken ≡ count + cond (eqb (get_or bytes count 0) 10) 0 1
    → IsScanned s (behind_word s p) v bytes (drop count bytes) → IsScanned s (behind_word s p) v bytes (drop taken bytes) × (taken ≤ length bytes)
token_taken s p v bytes count taken within ends is so_far = elim (eqb (get_or bytes count 0) 10) as (λ t. eqb (get_or bytes count 0) 10 ≡ t
    → IsScanned s (behind_word s p) v bytes (drop taken bytes) × (taken ≤ length bytes)) [
      | true ↦ search rules
      | false ↦ λ (e : eqb (get_or bytes count 0) 10 ≡ false). let at : count + 1 ≡ taken = sym (is ∙ ap (λ t. count + cond t 0 1) e) in (
        subst (λ k. IsScanned s (behind_word s p) v bytes (drop k bytes)) at
            (scan_byte_at s (behind_word s p) (behind_word s p) v v bytes count within (ends_no_return (get_or bytes count 0) ends) so_far
            (blank_stays s p (get_or bytes count 0) e (blank_from (is_blank (get_or bytes count 0)) (eqb (get_or bytes count 0) 10) ends e)) refl),
        omega arith,
      )
    ] refl

-- the word at the start is read
pub word_taken : (s : State) (p : Progress) (v : Bool) (bytes : List ℕ) (word : Word) (taken : ℕ) → is_before_word s.mode ≡ true
    → IsLeadingToken bytes word taken
    → word_read s.progress word ≡ Ok p → p.stage ≡ s.progress.stage → v ≡ false → ScansTo s (behind_word s p) v bytes (Ok taken)
word_taken s p v bytes word taken before token read stage e =
    token_taken s p v bytes token.count taken token.within token.ends token.is (read_scanned s p bytes word taken v before token read stage e)

-- or stops the parser
pub word_halts : (s : State) (u : Progress) (v : Bool) (bytes : List ℕ) (word : Word) (taken : ℕ) (kind : Kind) → is_before_word s.mode ≡ true
    → IsLeadingToken bytes word taken → Gives (λ p. word_read p word) s.progress u (Err kind) → ScansTo s (record s { progress = u }) v bytes (Err kind)
word_halts s u v bytes word taken kind before token = search (rules, stops_in, token_needs, token_faults)

-- ---- a call on the rest of the bytes

-- (where none is left, whether a CR waits stays)
pub rest_then : (s0 s t : State) (w v : Bool) (bytes : List ℕ) (place count : ℕ) → place ≤ length bytes → (drop place bytes ≡ [] → v ≡ w)
    → IsScanned s0 s w bytes (drop place bytes)
    → ScansTo s t v (take (length bytes - place) (drop place bytes)) (Ok count) → IsScanned s0 t v bytes (drop (place + count) bytes)
    × (place + count ≤ length bytes)
rest_then s0 s t w v bytes place count l same so_far next = grind (arith, common_steps, drop-drop, length-drop, rest_is, scanned_then)

pub rest_scanned : (s0 s t : State) (w v : Bool) (bytes : List ℕ) (place count : ℕ) → place < length bytes → IsScanned s0 s w bytes (drop place bytes)
    → ScansTo s t v (take (length bytes - place) (drop place bytes)) (Ok count)
    → IsScanned s0 t v bytes (drop (place + count) bytes) × (place + count ≤ length bytes)
rest_scanned s0 s t w v bytes place count l so_far next = grind (arith, common_steps, length-drop, rest_then)

pub rest_stops_to : (s0 s t : State) (w v : Bool) (bytes : List ℕ) (place : ℕ) (kind : Kind) → IsScanned s0 s w bytes (drop place bytes)
    → ScansTo s t v (take (length bytes - place) (drop place bytes)) (Err kind) → ScansTo s0 t v bytes (Err kind)
rest_stops_to s0 s t w v bytes place kind so_far = grind (arith, common_steps, rest_is, stops_in)

-- a byte at which the machine stopped
pub byte_stops : (s0 s t : State) (w : Bool) (bytes : List ℕ) (place : ℕ) (kind : Kind) → place < length bytes → get_or bytes place 0 ≢ 13
    → IsScanned s0 s w bytes (drop place bytes) → Steps IsInBidLine (λ x. byte_step x (get_or bytes place 0)) s t (Err kind)
    → Scans (settled bytes) s0 t (Err kind)
byte_stops s0 s t w bytes place kind l ne so_far here = grind (arith, common_steps, at_place, settled-other, stops_in)
