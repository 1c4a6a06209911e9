-- Texts of characters of a kind: ASCII, one text behind another, and a path as it is printed on a line.
use Rattle.cats_cmd.proofs.Common.{not, ◌≡◌, ℕ, zero, suc, ◌+◌, ◌/◌, ◌%◌, ◌<◌, ◌==◌, ◌&&◌, ltb, subst, Bool, true, false, cond, List, [], ◌∷◌, ◌++◌, refl, ap₂}
use Rattle.cats_cmd.proofs.Common.{◌∙◌, arith, append-nil, filter, digit_glyph, digits_onto, digit_char, encode_utf8, All, flat_map, list_all, all_scalars}
use Rattle.cats_cmd.proofs.Common.{low_scalar, scalar, and_from, not-true, not_from_false, and_parts, cond_both, lt-ltb, ltb-true, nat_tests, All-weaker}
use Rattle.cats_cmd.proofs.Common.{All-append, All-cons, All-nil, list_all-append, list_all-map, AllPass-from_list_all, list_all-from_AllPass, encode_ascii}
use Rattle.cats_cmd.proofs.Common.{encodes-append, AreBytes, IsTextOf, escaped, escaped_byte, is_printable, decimal}
use Rattle.std.specs.Fmt.{digits}
use Rattle.cats_cmd.proofs.Escaped.{escaped_by_parts, plainly}

-- ---- a test of each element, which `simp` computes of a text

pub list_all-flat_map : {X Y : Type 0} (p : Y → Bool) (f : X → List Y) (xs : List X) → list_all p (flat_map f xs) ≡ list_all (λ x. list_all p (f x)) xs
list_all-flat_map p f [] = refl
list_all-flat_map p f (x ∷ xs) = simp (list_all-append, list_all-flat_map p f xs)

pub list_all-true : {X : Type 0} (xs : List X) → list_all (λ x. true) xs ≡ true
list_all-true [] = refl
list_all-true (x ∷ xs) = list_all-true xs

pub list_all-cond : (p : ℕ → Bool) (t : Bool) (xs ys : List ℕ) → list_all p (cond t xs ys) ≡ cond t (list_all p xs) (list_all p ys)
list_all-cond p true xs ys = refl
list_all-cond p false xs ys = refl

pub cond-same : (t x : Bool) → cond t x x ≡ x
cond-same true x = refl
cond-same false x = refl

pub list_all-filter : {X : Type 0} (p test : X → Bool) (xs : List X) → list_all p xs ≡ true → list_all p (filter test xs) ≡ true
list_all-filter p test [] e = refl
list_all-filter p test (x ∷ xs) e =
    let both = and_parts (p x) (list_all p xs) e in
    let rest = list_all-filter p test xs both.1 in
    cond_both (test x) (x ∷ filter test xs) (filter test xs) (λ ys. list_all p ys ≡ true) (λ t. rw both.0 rest) (λ t. rest)

pub list_all-weaker : {X : Type 0} (p q : X → Bool) → ((x : X) → p x ≡ true → q x ≡ true) → (xs : List X) → list_all p xs ≡ true → list_all q xs ≡ true
list_all-weaker p q weaker [] e = refl
list_all-weaker p q weaker (x ∷ xs) e =
    let both = and_parts (p x) (list_all p xs) e in and_from (q x) (list_all q xs) (weaker x both.0) (list_all-weaker p q weaker xs both.1)

pub list_all-both : {X : Type 0} (p : X → Bool) (xs ys : List X) → list_all p xs ≡ true → list_all p ys ≡ true → list_all p (xs ++ ys) ≡ true
list_all-both p xs ys e f = rw list_all-append (and_from (list_all p xs) (list_all p ys) e f)

-- what holds of each of some things, as a test of each
pub list_all-from_All : {X : Type 0} (P : X → Type 0) (p : X → Bool) → ((x : X) → P x → p x ≡ true) → (xs : List X) → All P xs → list_all p xs ≡ true
list_all-from_All P p passes xs are = list_all-from_AllPass p xs (All-weaker P (λ x. p x ≡ true) passes xs are)

-- no element passes
pub none_passes : {X : Type 0} (p : X → Bool) (xs : List X) → list_all (λ x. not (p x)) xs ≡ true → All (λ x. p x ≡ false) xs
none_passes p xs e = All-weaker (λ x. not (p x) ≡ true) (λ x. p x ≡ false) (λ x. not-true (p x)) xs (AllPass-from_list_all (λ x. not (p x)) xs e)

-- the text does not have this byte
abbrev pub lacks : ℕ → List ℕ → Bool
lacks end text = list_all (λ b. not (b == end)) text

pub lacks_from : (end : ℕ) (text : List ℕ) → All (λ b. (b == end) ≡ false) text → lacks end text ≡ true
lacks_from end = list_all-from_All (λ b. (b == end) ≡ false) (λ b. not (b == end)) (λ b. not_from_false (b == end))

abbrev pub are_bytes : List ℕ → Bool
are_bytes text = list_all (λ b. ltb b 256) text

pub bytes_from : (text : List ℕ) → AreBytes text → are_bytes text ≡ true
bytes_from = list_all-from_All (λ b. b < 256) (λ b. ltb b 256) (λ b. lt-ltb b 256)

pub ruleset of_each = (list_all-append, list_all-flat_map, list_all-map, list_all-filter, list_all-cond, cond-same, list_all-true)

module _ (p : ℕ → Bool) (of_digits : (d : ℕ) → d < 10 → p (48 + d) ≡ true) where
  glyph : (d : ℕ) → d < 10 → p (digit_glyph false d) ≡ true
  glyph d l = rw (lt-ltb d 10 l) (of_digits d l)

  onto : (k n : ℕ) (acc : List ℕ) → list_all p acc ≡ true → list_all p (digits_onto k 10 false n acc) ≡ true
  onto zero n acc h = h
  onto (suc k) n acc h =
      let more : list_all p (digit_glyph false (n % 10) ∷ acc) ≡ true = rw (glyph (n % 10) (omega arith)) h in
      cond_both (n / 10 == 0) _ _ (λ text. list_all p text ≡ true) (λ e. more) (λ e. onto k (n / 10) (digit_glyph false (n % 10) ∷ acc) more)

  pub list_all-decimal : (n : ℕ) → list_all p (decimal n) ≡ true
  unfolding digits
  list_all-decimal n = onto 64 n [] refl

-- ---- texts

module _ (kind : ℕ → Bool) where
  abbrev IsOfKind : ℕ → Type 0
  IsOfKind c = kind c ≡ true

  pub no_text : IsTextOf kind []
  no_text = record { characters = []; scalars = refl; kind = All-nil IsOfKind; spelt = refl }

  scalars_behind : (cs ds : List ℕ) → all_scalars cs ≡ true → all_scalars ds ≡ true → all_scalars (cs ++ ds) ≡ true
  scalars_behind [] ds e f = f
  scalars_behind (c ∷ cs) ds e f = let parts = and_parts (scalar c) (all_scalars cs) e in rw parts.0 (scalars_behind cs ds parts.1 f)

  pub text_behind : (xs ys : List ℕ) → IsTextOf kind xs → IsTextOf kind ys → IsTextOf kind (xs ++ ys)
  text_behind xs ys x y = record {
    characters = x.characters ++ y.characters;
    scalars = scalars_behind x.characters y.characters x.scalars y.scalars;
    kind = All-append IsOfKind x.characters y.characters x.kind y.kind;
    spelt = encodes-append x.characters y.characters ∙ ap₂ (λ (s t : List ℕ). s ++ t) x.spelt y.spelt;
  }

  character_text : (c : ℕ) → all_scalars (c ∷ []) ≡ true → kind c ≡ true → IsTextOf kind (encode_utf8 c)
  character_text c scalar of = record {
    characters = c ∷ [];
    scalars = scalar;
    kind = All-cons IsOfKind c [] of (All-nil IsOfKind);
    spelt = append-nil (encode_utf8 c);
  }

  -- an ASCII text
  module _ (test : ℕ → Bool) (sound : (b : ℕ) → test b ≡ true → (b < 128) × IsOfKind b) where
    pub ascii_text : (text : List ℕ) → list_all test text ≡ true → IsTextOf kind text
    ascii_text [] e = no_text
    ascii_text (b ∷ bs) e =
        let parts = and_parts (test b) (list_all test bs) e in
        let is = sound b parts.0 in
        let first : IsTextOf kind (encode_utf8 b) = character_text b (rw (low_scalar b (omega (arith, is.0))) refl) is.1 in
        text_behind (b ∷ []) bs (subst (IsTextOf kind) (encode_ascii b is.0) first) (ascii_text bs parts.1)

-- ---- printable ASCII

abbrev pub is_ascii : ℕ → Bool
is_ascii b = ltb 31 b && ltb b 127

pub ascii_between : (b : ℕ) → is_ascii b ≡ true → (31 < b) × (b < 127)
ascii_between b e = let parts = and_parts (ltb 31 b) (ltb b 127) e in (ltb-true 31 b parts.0, ltb-true b 127 parts.1)

ascii_printable : (b : ℕ) → is_ascii b ≡ true → (b < 128) × (is_printable b ≡ true)
ascii_printable b e = let is = ascii_between b e in (omega (arith, is.1), grind (arith, is.0, is.1))

digit_ascii : (d : ℕ) → d < 16 → is_ascii (digit_char d) ≡ true
digit_ascii d l = grind (arith, nat_tests)

pub byte_ascii : (b : ℕ) → b < 256 → list_all is_ascii (escaped_byte b) ≡ true
byte_ascii b l =
    let high : b / 16 < 16 = omega (arith, l) in
    let low : b % 16 < 16 = omega arith in
    simp (list_all-cond, cond-same, lt-ltb b 256 l, digit_ascii)

-- a path as it is printed
pub printable : (path : List ℕ) → are_bytes path ≡ true → IsTextOf is_printable (escaped path)
printable = escaped_by_parts (λ path text. are_bytes path ≡ true → IsTextOf is_printable text) (λ bytes. no_text is_printable)
    (λ b bs text is bytes.
    let parts = and_parts (ltb b 256) (are_bytes bs) bytes in
    text_behind is_printable (escaped_byte b) text
    (ascii_text is_printable is_ascii ascii_printable (escaped_byte b) (byte_ascii b (ltb-true b 256 parts.0))) (is parts.1))
    (λ c bs text p is bytes.
    let says = plainly c p in
    text_behind is_printable (encode_utf8 c) text (character_text is_printable c says.scalar says.printable)
    (is (and_parts (are_bytes (encode_utf8 c)) (are_bytes bs) (rw list_all-append at bytes)).1))
