-- A path as it is printed on a line is read back byte by byte, and has no control byte. The idea: the bytes of a character that is not
-- escaped are neither control bytes nor backslashes.
use Rattle.cats_cmd.proofs.Common.{◌≡◌, ℕ, ◌+◌, ◌*◌, ◌/◌, ◌%◌, ◌<◌, ◌==◌, ◌&&◌, Bool, true, false, List, [], ◌∷◌, ◌++◌, fold, refl, sym, ap, ◌∙◌, arith}
use Rattle.cats_cmd.proofs.Common.{append-nil, not, ltb, nat_lt, All, list_all, not-true, cond_both, eqb-true, ltb-true, and_parts, nat_tests, append_assoc}
use Rattle.cats_cmd.proofs.Common.{fold-append, digit_value-digit_char, Plain, Reading, escaped, escaped_byte, hex_escape, is_control_byte, is_plain}
use Rattle.cats_cmd.proofs.Common.{reads_byte, unescaped}
use Rattle.std.specs.Char.{encode_utf8}
use Rattle.cats_cmd.proofs.Escaped.{escaped_by_parts, plainly}
use Rattle.cats_cmd.proofs.PrintableTexts.{list_all-both, list_all-weaker, none_passes, cond-same, list_all-cond}

-- ---- no control bytes

abbrev pub is_harmless : ℕ → Bool
is_harmless b = not (is_control_byte b)

-- nor a backslash
abbrev is_kept : ℕ → Bool
is_kept b = not (b == 92) && is_harmless b

high_kept : (k b : ℕ) → ltb 127 k ≡ true → is_kept (k + b) ≡ true
high_kept k b l = grind (arith, nat_tests)

low_kept : (c : ℕ) → is_plain c ≡ true → is_kept c ≡ true
low_kept c p = let says = plainly c p in grind (arith, nat_tests, says.no_backslash, says.printable)

plain_kept : (c : ℕ) → is_plain c ≡ true → list_all is_kept (encode_utf8 c) ≡ true
unfolding encode_utf8
plain_kept c p = simp (list_all-cond, cond-same, low_kept c p, high_kept)

byte_harmless : (b : ℕ) → list_all is_harmless (escaped_byte b) ≡ true
byte_harmless b = grind (arith, nat_tests)

kept_harmless : (b : ℕ) → is_kept b ≡ true → is_harmless b ≡ true
kept_harmless b e = (and_parts (not (b == 92)) (is_harmless b) e).1

pub harmless_all : (path : List ℕ) → list_all is_harmless (escaped path) ≡ true
harmless_all = escaped_by_parts (λ path text. list_all is_harmless text ≡ true) refl
    (λ b bs text is. list_all-both is_harmless (escaped_byte b) text (byte_harmless b) is)
    (λ c bs text p is. list_all-both is_harmless (encode_utf8 c) text (list_all-weaker is_kept is_harmless kept_harmless (encode_utf8 c) (plain_kept c p)) is)

pub harmless : (path : List ℕ) → All (λ b. is_control_byte b ≡ false) (escaped path)
harmless path = none_passes is_control_byte (escaped path) (harmless_all path)

-- ---- read back

abbrev whole : List ℕ → Reading × List ℕ
whole path = (Plain, path)

-- the text is read as these bytes
abbrev IsReadAs : List ℕ → List ℕ → Type 0
IsReadAs text bytes = (front : List ℕ) → fold reads_byte (whole front) text ≡ whole (front ++ bytes)

hex_back : (b : ℕ) → b < 256 → IsReadAs (hex_escape b) (b ∷ [])
hex_back b l front =
    let high = digit_value-digit_char (b / 16) (omega (arith, l)) in
    let lower = digit_value-digit_char (b % 16) (omega arith) in
    let sum : b / 16 * 16 + b % 16 ≡ b = omega arith in
    rw (high, lower, sum) refl

byte_back : (b : ℕ) → IsReadAs (escaped_byte b) (b ∷ [])
byte_back b =
    let back = λ (c : ℕ) (e : (b == c) ≡ true) (front : List ℕ). ap (λ (x : ℕ). whole (front ++ x ∷ [])) (sym (eqb-true b c e)) in
    let Back : List ℕ → Type 0 = λ text. IsReadAs text (b ∷ []) in
    cond_both (b == 92) _ _ Back (back 92) (λ slash. cond_both (b == 10) _ _ Back (back 10) (λ lf.
    cond_both (b == 9) _ _ Back (back 9) (λ tab. cond_both (nat_lt b 256) _ _ Back (λ e. hex_back b (ltb-true b 256 e)) (λ e front. rw slash refl))))

kept_back : (bytes : List ℕ) → list_all is_kept bytes ≡ true → IsReadAs bytes bytes
kept_back [] e front = ap whole (sym (append-nil front))
kept_back (b ∷ bytes) e front =
    let parts = and_parts (is_kept b) (list_all is_kept bytes) e in
    let no_backslash = not-true (b == 92) (and_parts (not (b == 92)) (is_harmless b) parts.0).0 in
    rw no_backslash (kept_back bytes parts.1 (front ++ b ∷ []) ∙ ap whole (append_assoc front (b ∷ []) bytes))

read_then : (text bytes more rest : List ℕ) → IsReadAs text bytes → IsReadAs more rest → IsReadAs (text ++ more) (bytes ++ rest)
read_then text bytes more rest one other front =
    fold-append reads_byte (whole front) text more ∙ ap (λ (s : Reading × List ℕ). fold reads_byte s more) (one front) ∙ other (front ++ bytes)
    ∙ ap whole (append_assoc front bytes rest)

pub read_back : (path : List ℕ) → unescaped (escaped path) ≡ path
read_back path = ap (λ (s : Reading × List ℕ). s.1) (escaped_by_parts (λ path text. IsReadAs text path) (kept_back [] refl)
    (λ b bs text is. read_then (escaped_byte b) (b ∷ []) text bs (byte_back b) is)
    (λ c bs text p is. read_then (encode_utf8 c) (encode_utf8 c) text bs (kept_back (encode_utf8 c) (plain_kept c p)) is) path [])
