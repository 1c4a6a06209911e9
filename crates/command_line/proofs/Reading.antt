-- What the getters of `clap` read is what the rows say: numbers are read exactly if they are decimal numbers in range.
use Rattle.command_line.proofs.Common.{◌+◌, ◌≡◌, ◌∙◌, ◌<◌, ℕ, Bool, true, false, List, [], ◌∷◌, Some, None, Result, Ok, Err, sym, ap, refl, arith, ◌^◌, ◌≤◌}
use Rattle.command_line.proofs.Common.{Bor, list_any, ◌||◌, result_ok, ParsesUnsigned, is_unsigned_in, Unsigned, accepts-Accepts, Accepts-accepts, texts_of}
use Rattle.command_line.proofs.Common.{named_number, begins_with_sign, number_up_to, limit_of}

-- a number below 2 ^ bits that is read from a text is the text's
module _ (bits most : ℕ) (is : 2 ^ bits ≡ most + 1) (small : most < 2 ^ 64) where
  pub number_read : (E : Type 0) (text : List ℕ) (answer : Result ℕ E) → ParsesUnsigned bits 10 text answer → result_ok answer ≡ number_up_to most text
  number_read E text (Ok n) h =
      let numeral = h.0.0 in
      let less = h.0.1 in
      rw (Accepts-accepts false (Unsigned 0 most) text (numeral, omega (arith, less, is, small), omega arith, omega (arith, less, is))) (ap Some h.1)
  number_read E text (Err e) h = go (is_unsigned_in 0 most text) refl
    where
      go : (taken : Bool) → is_unsigned_in 0 most text ≡ taken → None ≡ number_up_to most text
      go true accepts =
          let numeral = accepts-Accepts false (Unsigned 0 most) text accepts in
          let within = numeral.3 in
          absurd (h (numeral.0, omega (arith, within, is)))
      go false accepts = rw accepts refl

pub limit_read : (E : Type 0) (text : List ℕ) (answer : Result ℕ E) → ParsesUnsigned 64 10 text answer → limit_of text ≡ result_ok answer
limit_read E text answer parses = sym (number_read 64 18446744073709551615 refl (omega arith) E text answer parses)

-- a number that is read from a text is the text's, if it is not too great, as no number is if none is read
pub number_named : (E : Type 0) (most : ℕ) (text : List ℕ) (answer : Result ℕ E) (n : ℕ) → begins_with_sign text ≡ false → ParsesUnsigned 16 10 text answer
    → answer ≡ Ok n → n ≤ most → Some n ≡ named_number most text
number_named E most text (Ok m) n plain parses is small =
    let same : m ≡ n = ap (λ (read : Result ℕ E). get_ok read) is in
    let value = parses.1 in
    let less = parses.0.1 in
    rw (plain, Accepts-accepts false (Unsigned 0 most) text (parses.0.0, omega (arith, less), omega arith, omega (arith, small, same, value)))
    (ap Some (sym same ∙ value))
  where
    get_ok : {E : Type 0} → Result ℕ E → ℕ
    get_ok (Ok n) = n
    get_ok (Err e) = 0
number_named E most text (Err e) n plain parses is small = cc

pub no_number_read : (E : Type 0) (most : ℕ) (text : List ℕ) (answer : Result ℕ E) → most < 65536 → begins_with_sign text ≡ false
    → ParsesUnsigned 16 10 text answer → ((n : ℕ) → answer ≡ Ok n → most < n) → None ≡ named_number most text
no_number_read E most text answer below plain parses great = rw plain (go (is_unsigned_in 0 most text) refl answer parses great)
  where
    go : (taken : Bool) → is_unsigned_in 0 most text ≡ taken → (answer : Result ℕ E) → ParsesUnsigned 16 10 text answer
        → ((n : ℕ) → answer ≡ Ok n → most < n) → None ≡ number_up_to most text
    go false accepts answer parses great = rw accepts refl
    go true accepts (Ok n) parses great =
        let within = (accepts-Accepts false (Unsigned 0 most) text accepts).3 in
        absurd (omega (arith, within, great n refl, parses.1))
    go true accepts (Err e) parses great =
        let numeral = accepts-Accepts false (Unsigned 0 most) text accepts in
        let within = numeral.3 in
        absurd (parses (numeral.0, omega (arith, within, below)))

-- ---- signs

pub any_of_texts : (test : List ℕ → Bool) (words : List (Bor (List ℕ))) → list_any test (texts_of words) ≡ list_any (λ word. test word.now) words
any_of_texts test [] = refl
any_of_texts test (word ∷ words) = ap (λ b. test word.now || b) (any_of_texts test words)
