-- A scan of a list of bytes: what is left of it does to the state reached what the whole does to the first.
use Rattle.cats_text.proofs.Common.{drop_of_length-le, add-one, drop-cons, ◌≡◌, ◌≢◌, ℕ, ◌+◌, ◌<◌, Bool, true, false, List, [], ◌∷◌, length, drop, get_or, refl}
use Rattle.cats_text.proofs.Common.{sym, subst, arith, Ok, ne_eqb, eq-eqb, settled, waits, return_byte, State, scan, byte_step, MeetsBidLine, IsScanned}
use Rattle.cats_text.proofs.Common.{common_steps}

pub settled-other : (b : ℕ) (rest : List ℕ) → b ≢ 13 → settled (b ∷ rest) ≡ b ∷ settled rest
settled-other b [] ne = rw (ne_eqb b 13 ne) refl
settled-other b (c ∷ cs) ne = rw (ne_eqb b 13 ne) refl

settled-last_return : (b : ℕ) → b ≡ 13 → settled (b ∷ []) ≡ []
settled-last_return b e = rw e refl

settled-return : (b c : ℕ) (cs : List ℕ) → b ≡ 13 → settled (b ∷ c ∷ cs) ≡ return_byte c ∷ settled (c ∷ cs)
settled-return b c cs e = rw e refl

waits-one : (b : ℕ) → b ≢ 13 → waits (b ∷ []) ≡ false
waits-one b ne = ne_eqb b 13 ne

-- a decided byte, and what is decided after it
scan_decided : (s0 s t : State) (w : Bool) (bytes rest after : List ℕ) (b : ℕ) → settled rest ≡ b ∷ after → IsScanned s0 s w bytes rest → byte_step s b ≡ Ok t
    → (scan t after ≡ scan s0 (settled bytes)) × (MeetsBidLine t after → MeetsBidLine s0 (settled bytes))
scan_decided s0 s t w bytes rest after b e p step = grind (arith, common_steps)

pub scan_byte : (s0 s t : State) (w : Bool) (bytes : List ℕ) (b : ℕ) (rest : List ℕ) → b ≢ 13 → IsScanned s0 s w bytes (b ∷ rest) → byte_step s b ≡ Ok t
    → IsScanned s0 t w bytes rest
scan_byte s0 s t w bytes b rest ne p step = grind (arith, common_steps, scan_decided, settled-other, waits-one)

pub scan_last_return : (s0 s : State) (w : Bool) (bytes : List ℕ) (b : ℕ) → b ≡ 13 → IsScanned s0 s w bytes (b ∷ []) → IsScanned s0 s true bytes []
scan_last_return s0 s w bytes b e p = grind (arith, common_steps, eq-eqb, settled-last_return)

pub scan_return : (s0 s t : State) (w : Bool) (bytes : List ℕ) (b c : ℕ) (cs : List ℕ) → b ≡ 13 → IsScanned s0 s w bytes (b ∷ c ∷ cs)
    → byte_step s (return_byte c) ≡ Ok t → IsScanned s0 t w bytes (c ∷ cs)
scan_return s0 s t w bytes b c cs e p step = grind (arith, common_steps, scan_decided, settled-return)

-- ---- the same at a place of the list

pub at_place : (bytes : List ℕ) (place : ℕ) → place < length bytes → drop place bytes ≡ get_or bytes place 0 ∷ drop (place + 1) bytes
at_place bytes place l = rw add-one (drop-cons bytes place 0 l)

pub scan_byte_at : (s0 s t : State) (w v : Bool) (bytes : List ℕ) (place : ℕ) → place < length bytes → get_or bytes place 0 ≢ 13
    → IsScanned s0 s w bytes (drop place bytes) → byte_step s (get_or bytes place 0) ≡ Ok t → v ≡ w → IsScanned s0 t v bytes (drop (place + 1) bytes)
scan_byte_at s0 s t w v bytes place l ne p step e =
    subst (λ u. IsScanned s0 t u bytes (drop (place + 1) bytes)) (sym e)
    (scan_byte s0 s t w bytes (get_or bytes place 0) (drop (place + 1) bytes) ne (subst (λ r. IsScanned s0 s w bytes r) (at_place bytes place l) p) step)

pub scan_last_return_at : (s0 s : State) (w : Bool) (bytes : List ℕ) (place : ℕ) → place + 1 ≡ length bytes → get_or bytes place 0 ≡ 13
    → IsScanned s0 s w bytes (drop place bytes) → IsScanned s0 s true bytes (drop (place + 1) bytes)
scan_last_return_at s0 s w bytes place end e p = grind (arith, common_steps, at_place, drop_of_length-le, scan_last_return)

pub scan_return_at : (s0 s t : State) (w v : Bool) (bytes : List ℕ) (place : ℕ) → place + 1 < length bytes → get_or bytes place 0 ≡ 13
    → IsScanned s0 s w bytes (drop place bytes) → byte_step s (return_byte (get_or bytes (place + 1) 0)) ≡ Ok t → v ≡ w
    → IsScanned s0 t v bytes (drop (place + 1) bytes)
scan_return_at s0 s t w v bytes place l e p step q = grind (arith, common_steps, at_place, scan_return)

-- ---- several bytes at once

-- one scan behind another
pub scanned_then : (s0 s t : State) (w v : Bool) (bytes mid rest : List ℕ) → IsScanned s0 s w bytes mid → IsScanned s t v mid rest
    → (0 < length rest → 0 < length mid) → (mid ≡ [] → rest ≡ [] → v ≡ w) → IsScanned s0 t v bytes rest
scanned_then s0 s t w v bytes mid rest p q more none = grind (arith, common_steps)
