-- A path that is printed on a line by runs of characters that are not escaped.
use Rattle.cats_cmd.proofs.Common.{◌≡◌, ℕ, zero, suc, ◌+◌, ◌-◌, ◌≤◌, ◌<◌, ◌==◌, ◌&&◌, Bool, true, false, List, [], ◌∷◌, ◌++◌, length, take, drop, refl, sym, ap}
use Rattle.cats_cmd.proofs.Common.{ap₂, not, subst, ⊎_elim, ◌∙◌, arith, eqb, length-append, length-drop, encode_utf8, starts_with, all_scalars, take-add}
use Rattle.cats_cmd.proofs.Common.{take-append_seam, not-true, and_parts, both_ways, cases_Bool, eqb-true, ne_eqb, Decides-eqb, nat_tests, append_assoc}
use Rattle.cats_cmd.proofs.Common.{drop-drop, take_all, starts_is, code_at, escaped, escaped_behind, escaped_byte, is_plain, is_printable, plain_length}

pub record Plainly (c : ℕ) : Type 0 where
  pub scalar : all_scalars (c ∷ []) ≡ true
  pub printable : is_printable c ≡ true
  pub no_backslash : (c == 92) ≡ false

pub plainly : (c : ℕ) → is_plain c ≡ true → Plainly c
plainly c p =
    let outer = and_parts (all_scalars (c ∷ [])) (is_printable c && not (c == 92)) p in
    let inner = and_parts (is_printable c) (not (c == 92)) outer.1 in
    record { scalar = outer.0; printable = inner.0; no_backslash = not-true (c == 92) inner.1 }

-- a character that is not escaped, and behind it these bytes
pub record Begins (bytes : List ℕ) : Type 0 where
  pub plain : is_plain (code_at bytes) ≡ true
  pub long : plain_length bytes ≡ length (encode_utf8 (code_at bytes))
  pub whole : bytes ≡ encode_utf8 (code_at bytes) ++ drop (plain_length bytes) bytes

-- the bytes begin with such a character, if it has bytes
pub begins_plain : (bytes : List ℕ) → (plain_length bytes == 0) ≡ false → Begins bytes
begins_plain bytes some = by (is_plain c && starts_with eqb bytes (encode_utf8 c)) refl
  where
    c : ℕ
    c = code_at bytes

    by : (t : Bool) → (is_plain c && starts_with eqb bytes (encode_utf8 c)) ≡ t → Begins bytes
    by true e =
        let parts = and_parts (is_plain c) (starts_with eqb bytes (encode_utf8 c)) e in
        record { plain = parts.0; long = rw e refl; whole = rw e ((starts_is Decides-eqb bytes (encode_utf8 c) true (sym parts.1)).0 refl) }
    by false e = absurd (both_ways (plain_length bytes == 0) some (rw e refl))

-- it is there as a whole
plain_within : (bytes : List ℕ) → plain_length bytes ≤ length bytes
plain_within bytes =
    ⊎_elim (λ (e : (plain_length bytes == 0) ≡ true). omega (arith, eqb-true (plain_length bytes) 0 e))
    (λ (some : (plain_length bytes == 0) ≡ false). let begins = begins_plain bytes some in
    omega (arith, begins.long, simp length-append at (ap (length {A = ℕ}) begins.whole)))
    (cases_Bool (plain_length bytes == 0))

-- so many bytes of a character are not escaped
behind_splits : (left : ℕ) (bytes : List ℕ) → left ≤ length bytes → escaped_behind left bytes ≡ take left bytes ++ escaped (drop left bytes)
behind_splits zero bytes l = refl
behind_splits (suc left) [] l = absurd (omega (arith, l))
behind_splits (suc left) (b ∷ bs) l =
    let some : (suc left == 0) ≡ false = ne_eqb (suc left) 0 (λ e. absurd (omega (arith, e))) in
    let less : suc left - 1 ≡ left = omega arith in
    rw (some, some) (ap (λ (t : List ℕ). b ∷ t) (ap (λ (n : ℕ). escaped_behind n bs) less ∙ behind_splits left bs (omega (arith, l))))

begins : (b : ℕ) (bs : List ℕ) → (plain_length (b ∷ bs) == 0) ≡ false → escaped (b ∷ bs) ≡ escaped_behind (plain_length (b ∷ bs)) (b ∷ bs)
begins b bs some = rw (some, some) refl

plain_first : (bytes : List ℕ) → 0 < length bytes → (plain_length bytes == 0) ≡ false
    → escaped bytes ≡ take (plain_length bytes) bytes ++ escaped (drop (plain_length bytes) bytes)
plain_first [] more some = absurd (omega arith)
plain_first (b ∷ bs) more some = begins b bs some ∙ behind_splits (plain_length (b ∷ bs)) (b ∷ bs) (plain_within (b ∷ bs))

-- one more character behind a run of them
pub run_more : (bytes : List ℕ) (run : ℕ) → escaped bytes ≡ take run bytes ++ escaped (drop run bytes) → 0 < length (drop run bytes)
    → (plain_length (drop run bytes) == 0) ≡ false
    → escaped bytes ≡ take (run + plain_length (drop run bytes)) bytes ++ escaped (drop (run + plain_length (drop run bytes)) bytes)
run_more bytes run so_far more some =
    let rest = drop run bytes in
    let n = plain_length rest in
    so_far ∙ ap (λ (t : List ℕ). take run bytes ++ t) (plain_first rest more some) ∙ sym (append_assoc (take run bytes) (take n rest) (escaped (drop n rest)))
    ∙ ap₂ (λ (t u : List ℕ). t ++ escaped u) (sym (take-add run n bytes)) (drop-drop n run bytes)

pub run_within : (bytes : List ℕ) (run : ℕ) → run ≤ length bytes → run + plain_length (drop run bytes) ≤ length bytes
run_within bytes run l = omega (arith, plain_within (drop run bytes), length-drop run bytes, l)

-- the bytes behind a run, as the code has them
pub behind_run : (bytes : List ℕ) (run : ℕ) → run ≤ length bytes → take (length bytes - run) (drop run bytes) ≡ drop run bytes
behind_run bytes run l = take_all (length bytes - run) (drop run bytes) (omega (arith, length-drop run bytes, l))

-- ---- a path by its parts

fewer : (n b : ℕ) (bs : List ℕ) (k : ℕ) → (n == 0) ≡ false → length (b ∷ bs) ≤ suc k → length (drop n (b ∷ bs)) ≤ k
fewer n b bs k some l = grind (arith, nat_tests, length-drop)

-- A path is bytes that are escaped and characters that are not: what each of them keeps holds of the whole.
module _ (P : List ℕ → List ℕ → Type 0) (none : P [] []) (byte : (b : ℕ) (bs text : List ℕ) → P bs text → P (b ∷ bs) (escaped_byte b ++ text))
    (character : (c : ℕ) (bs text : List ℕ) → is_plain c ≡ true → P bs text → P (encode_utf8 c ++ bs) (encode_utf8 c ++ text)) where
  by_parts : (k : ℕ) (path : List ℕ) → length path ≤ k → P path (escaped path)
  by_parts k [] l = none
  by_parts zero (b ∷ bs) l = absurd (omega (arith, l))
  by_parts (suc k) (b ∷ bs) l =
      ⊎_elim (λ (e : (plain_length (b ∷ bs) == 0) ≡ true). rw e (byte b bs (escaped bs) (by_parts k bs (omega (arith, l)))))
      (λ (some : (plain_length (b ∷ bs) == 0) ≡ false).
      let path = b ∷ bs in
      let c = code_at path in
      let n = plain_length path in
      let begins = begins_plain path some in
      let first : take n path ≡ encode_utf8 c =
      ap (take n) begins.whole ∙ ap (λ (k : ℕ). take k (encode_utf8 c ++ drop n path)) begins.long ∙ take-append_seam (encode_utf8 c) (drop n path) in
      subst (λ (T : Type 0). T)
      (ap₂ P (sym begins.whole) (sym (plain_first path (omega arith) some ∙ ap (λ (t : List ℕ). t ++ escaped (drop n path)) first)))
      (character c (drop n path) (escaped (drop n path)) begins.plain (by_parts k (drop n path) (fewer n b bs k some l))))
      (cases_Bool (plain_length (b ∷ bs) == 0))

  pub escaped_by_parts : (path : List ℕ) → P path (escaped path)
  escaped_by_parts path = by_parts (length path) path (omega arith)
