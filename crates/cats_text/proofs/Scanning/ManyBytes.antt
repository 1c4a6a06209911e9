-- Several bytes at once: the digits of a number, whole words, and the bytes of a comment.
use Rattle.cats_text.proofs.Common.{rules, ◌≡◌, ◌≢◌, ℕ, suc, ◌+◌, ◌-◌, ◌*◌, ◌<◌, ◌≤◌, Bool, true, false, not, ◌&&◌, cond, eqb, ltb, List, [], ◌∷◌, ◌++◌}
use Rattle.cats_text.proofs.Common.{length, take, get_or, drop, fold, refl, sym, ap, ◌∙◌, subst, arith, Ok, add-one, append-nil, Some, None, min, and_parts}
use Rattle.cats_text.proofs.Common.{and_from, ltb-false, ne_eqb, eq-eqb, fold_push, take-suc, take-length, AllByRecursion, prefix_len, position_or_len}
use Rattle.cats_text.proofs.Common.{position, take-append-drop, length-drop, length-take, length-prefix_len, unwrap_or, is_blank, settled, waits, return_byte}
use Rattle.cats_text.proofs.Common.{Progress, State, scan, letter_mode, is_before_word, MeetsBidLine, IsScanned, Mode, Comment, Between, Inside, is_digit}
use Rattle.cats_text.proofs.Common.{digits_alone, word_from, word_with, decimal_with, summary, IsPlain, IsLetter, IsKept, IsNumberSoFar, Number, Other, Decimal}
use Rattle.cats_text.proofs.Common.{HELD, ends_word, or_parts, eqb-false, list_any, option_map, lt-ltb, ◌||◌, zero, zero-add, take-add, list_any-append}
use Rattle.cats_text.proofs.Common.{common_steps}
use Rattle.cats_text.proofs.Words.Places.{digit_bounds}
use Rattle.cats_text.proofs.Scanning.Rests.{settled-other}
use Rattle.cats_text.proofs.Scanning.Appends.{meets_behind}
use Rattle.cats_text.proofs.Scanning.Lines.{IsNoEnd, standing, scan-append, in_comment, byte_letter}
use Rattle.cats_text.specs.declared.word.Word.{Word}
use Rattle.cats_text.specs.declared.word.Word.TheVariants.{Decimal as Fraction}

take_push : (bytes : List ℕ) (i : ℕ) → i < length bytes → take (i + 1) bytes ≡ take i bytes ++ get_or bytes i 0 ∷ []
take_push bytes i l = rw add-one (take-suc bytes i 0 l)

digits_push : (ds : List ℕ) (b : ℕ) → digits_alone ds ≡ true → is_digit b ≡ true → digits_alone (ds ++ b ∷ []) ≡ true
digits_push [] b h k = rw k refl
digits_push (a ∷ w) b h k = let p = and_parts (is_digit a) (digits_alone w) h in and_from (is_digit a) (digits_alone (w ++ b ∷ [])) p.0 (digits_push w b p.1 k)

pub number_with : (v b : ℕ) → is_digit b ≡ true → word_with (Number v) b ≡ Number (cond (ltb v HELD) (v * 10 + (b - 48)) v)
number_with v b d = rw d refl

-- one more digit
pub number_more : (first : ℕ) (bytes : List ℕ) (i sum next : ℕ) → i < length bytes → is_digit (get_or bytes i 0) ≡ true → IsNumberSoFar first bytes i sum
    → next ≡ cond (ltb sum HELD) (sum * 10 + (get_or bytes i 0 - 48)) sum → IsNumberSoFar first bytes (i + 1) next
number_more first bytes i sum next l d so e = grind (arith, common_steps, digits_push, fold_push, number_with, take_push)

pub record IsDecimalSoFar (first : Decimal) (bytes : List ℕ) (count : ℕ) (sum : Decimal) : Type 0 where
  pub digits : digits_alone (take count bytes) ≡ true
  pub value : Fraction sum ≡ fold word_with (Fraction first) (take count bytes)

decimal_digit : (d : Decimal) (b : ℕ) → is_digit b ≡ true → word_with (Fraction d) b ≡ Fraction (decimal_with d (b - 48))
decimal_digit d b h = rw h refl

-- one more digit behind the point
pub decimal_more : (first : Decimal) (bytes : List ℕ) (i : ℕ) (sum next : Decimal) → i < length bytes → is_digit (get_or bytes i 0) ≡ true
    → IsDecimalSoFar first bytes i sum → next ≡ decimal_with sum (get_or bytes i 0 - 48) → IsDecimalSoFar first bytes (i + 1) next
decimal_more first bytes i sum next l d so e = grind (arith, common_steps, decimal_digit, digits_push, fold_push, take_push)

-- ---- over several bytes at once

waits_behind : (prefix back : List ℕ) → 0 < length back → waits (prefix ++ back) ≡ waits back
waits_behind (a ∷ []) [] l = absurd (let no : 0 < 0 = l in omega arith)
waits_behind (a ∷ b ∷ prefix) back l = waits_behind (b ∷ prefix) back l
waits_behind _ _ l = refl

waits_last : (xs : List ℕ) → 0 < length xs → waits xs ≡ eqb (get_or xs (length xs - 1) 0) 13
waits_last [] l = absurd (let no : 0 < 0 = l in omega arith)
waits_last (a ∷ []) l = refl
waits_last (a ∷ b ∷ xs) l = waits_last (b ∷ xs) (omega arith) ∙ ap (λ c. eqb c 13) (shift (b ∷ xs) (omega arith))
  where
    shift : (ys : List ℕ) → 0 < length ys → get_or ys (length ys - 1) 0 ≡ get_or (a ∷ ys) (length (a ∷ ys) - 1) 0
    shift ys l = let e : length (a ∷ ys) - 1 ≡ suc (length ys - 1) = omega arith in sym (ap (λ k. get_or (a ∷ ys) k 0) e)

-- ---- the bytes of a comment

-- what is decided of bytes without LF has no LF
settled_split : (prefix back : List ℕ) → AllByRecursion IsNoEnd prefix → (decided : List ℕ) × (settled (prefix ++ back) ≡ decided ++ settled back)
    × AllByRecursion IsNoEnd decided
settled_split [] back h = ([], refl, tt)
settled_split (b ∷ prefix) back h = let later = settled_split prefix back h.1 in joined (prefix ++ back) refl later.0 later.1 later.2
  where
    one : (c : ℕ) → IsNoEnd (cond (eqb b 13) (return_byte c) b)
    one c = elim (eqb b 13) as (λ t. eqb (cond t (return_byte c) b) 10 ≡ false) [
      | true ↦ elim (eqb c 10) as (λ t. eqb (cond t 32 13) 10 ≡ false) [
        | true ↦ refl
        | false ↦ refl
      ]
      | false ↦ h.0
    ]

    joined : (rest : List ℕ) → prefix ++ back ≡ rest → (decided : List ℕ) → settled (prefix ++ back) ≡ decided ++ settled back → AllByRecursion IsNoEnd decided
        → (all : List ℕ) × (settled (b ∷ (prefix ++ back)) ≡ all ++ settled back) × AllByRecursion IsNoEnd all
    joined [] e decided is none = elim (eqb b 13) as (λ t. eqb b 13 ≡ t → (all : List ℕ) × (settled (b ∷ (prefix ++ back)) ≡ all ++ settled back)
        × AllByRecursion IsNoEnd all) [
          | true ↦ λ (q : eqb b 13 ≡ true). (decided, ap (λ ds. settled (b ∷ ds)) e ∙ ap (λ t. cond t [] (b ∷ [])) q ∙ ap settled (sym e) ∙ is, none)
          | false ↦ λ (q : eqb b 13 ≡ false). (
            b ∷ decided,
            ap (λ ds. settled (b ∷ ds)) e ∙ ap (λ t. cond t [] (b ∷ [])) q ∙ ap (λ ds. b ∷ settled ds) (sym e) ∙ ap (λ ds. b ∷ ds) is,
            (h.0, none),
          )
        ] refl
    joined (c ∷ cs) e decided is none = (
      cond (eqb b 13) (return_byte c) b ∷ decided,
      ap (λ ds. settled (b ∷ ds)) e ∙ ap (λ ds. cond (eqb b 13) (return_byte c) b ∷ settled ds) (sym e) ∙ ap (λ ds. cond (eqb b 13) (return_byte c) b ∷ ds) is,
      (one c, none),
    )

comment_scan : (n : ℕ) (p : Progress) (prefix back : List ℕ) → AllByRecursion IsNoEnd prefix
    → (scan (standing Comment n p) (settled back) ≡ scan (standing Comment n p) (settled (prefix ++ back)))
    × (MeetsBidLine (standing Comment n p) (settled back)
    → MeetsBidLine (standing Comment n p) (settled (prefix ++ back)))
comment_scan n p prefix back h = let split = settled_split prefix back h in
    search (rules, standing, in_comment, scan-append, meets_behind)

no_feed_prefix : (bytes : List ℕ) → AllByRecursion IsNoEnd (take (prefix_len (λ b. not (eqb b 10)) bytes) bytes)
no_feed_prefix [] = tt
no_feed_prefix (b ∷ bs) =
    elim (eqb b 10) as (λ t. eqb b 10 ≡ t → AllByRecursion IsNoEnd (take (cond (not t) (1 + prefix_len (λ c. not (eqb c 10)) bs) 0) (b ∷ bs))) [
      | true ↦ λ e. tt
      | false ↦ search (rules, IsNoEnd, (no_feed_prefix bs))
    ] refl

min_le_right : (k i n : ℕ) → k ≡ min i n → k ≤ n
min_le_right k i n e = omega arith

feed_at : (bytes : List ℕ) → unwrap_or (position (λ b. eqb b 10) bytes) (length bytes) ≡ prefix_len (λ b. not (eqb b 10)) bytes
feed_at bytes = elim (ltb (position_or_len (λ b. eqb b 10) bytes) (length bytes)) as (λ t. ltb (position_or_len (λ b. eqb b 10) bytes) (length bytes) ≡ t
    → unwrap_or (cond t (Some (position_or_len (λ b. eqb b 10) bytes)) None) (length bytes) ≡ position_or_len (λ b. eqb b 10) bytes) [
      | true ↦ λ e. refl
      | false ↦ λ (e : ltb (position_or_len (λ b. eqb b 10) bytes) (length bytes) ≡ false). let past : length bytes ≤ position_or_len (λ b. eqb b 10) bytes =
          ltb-false _ _ e in
          let most : length (take (prefix_len (λ b. not (eqb b 10)) bytes) bytes) ≡ prefix_len (λ b. not (eqb b 10)) bytes =
          length-prefix_len (λ b. not (eqb b 10)) bytes in
          let short : length (take (prefix_len (λ b. not (eqb b 10)) bytes) bytes) ≤ length bytes =
          min_le_right _ _ _ (length-take (prefix_len (λ b. not (eqb b 10)) bytes) bytes) in omega arith
    ] refl

-- none passes in two parts
pub none_more : (test : ℕ → Bool) (bytes : List ℕ) (start count : ℕ) → list_any test (take start bytes) ≡ false
    → list_any test (take count (drop start bytes)) ≡ false → list_any test (take (start + count) bytes) ≡ false
none_more test bytes start count none more =
    ap (list_any test) (take-add start count bytes) ∙ list_any-append test (take start bytes) (take count (drop start bytes))
    ∙ ap (λ t. t || list_any test (take count (drop start bytes))) none ∙ more

none_before : (test : ℕ → Bool) (bytes : List ℕ) (start : ℕ) → start ≤ length bytes → list_any test (take start bytes) ≡ false
    → position_or_len test bytes ≡ start + position_or_len test (drop start bytes)
none_before test bytes zero l none = sym (zero-add (position_or_len test bytes))
none_before test [] (suc start) l none = absurd (omega arith)
none_before test (b ∷ bs) (suc start) l none =
    let parts = or_parts (test b) (list_any test (take start bs)) none in
    let next = none_before test bs start (omega arith) parts.1 in
    grind (arith, common_steps)

-- the first that passes, behind some that do not
pub position_behind : (test : ℕ → Bool) (bytes : List ℕ) (start : ℕ) → start ≤ length bytes → list_any test (take start bytes) ≡ false
    → position test bytes ≡ option_map (λ i. start + i) (position test (drop start bytes))
position_behind test bytes start l none =
    let first = none_before test bytes start l none in
    grind (arith, common_steps, length-drop, lt-ltb, ltb-false)

pub comment_within : (rest : List ℕ) (count : ℕ) → count ≡ unwrap_or (position (λ b. eqb b 10) rest) (length rest) → count ≤ length rest
comment_within rest count feed = grind (arith, common_steps, feed_at, length-prefix_len, length-take, min_le_right)

-- the rest of a comment in these bytes
pub comment_scanned : (s : State) (rest : List ℕ) (count : ℕ) (w : Bool) → s.mode ≡ Comment → 0 < length rest
    → count ≡ unwrap_or (position (λ b. eqb b 10) rest) (length rest)
    → w ≡ (eqb count (length rest) && eqb (get_or rest (count - 1) 0) 13) → IsScanned s s w rest (drop count rest)
comment_scanned s rest count w mode some feed e =
    let is : s ≡ standing Comment s.line s.progress = ap (λ (m : Mode). standing m s.line s.progress) mode in
    let parts : take count rest ++ drop count rest ≡ rest = take-append-drop count rest in
    let prefix : AllByRecursion IsNoEnd (take count rest) =
    subst (λ k. AllByRecursion IsNoEnd (take k rest)) (sym (feed ∙ feed_at rest)) (no_feed_prefix rest) in
    let both = comment_scan s.line s.progress (take count rest) (drop count rest) prefix in
    let left : length (drop count rest) ≡ length rest - count = length-drop count rest in
    let within : count ≤ length rest = comment_within rest count feed in
    record {
      steps = ap (λ t. scan t (settled (drop count rest))) is ∙ both.0 ∙ ap (λ ds. scan (standing Comment s.line s.progress) (settled ds)) parts
          ∙ ap (λ t. scan t (settled rest)) (sym is);
      needs = λ m. subst (λ t. MeetsBidLine t (settled rest)) (sym is) (subst (λ ds. MeetsBidLine (standing Comment s.line s.progress) (settled ds)) parts
          (both.1 (subst (λ t. MeetsBidLine t (settled (drop count rest))) is m)));
      last = λ l. sym (waits_behind (take count rest) (drop count rest) l) ∙ ap waits parts;
      going = λ l. e ∙ ap (λ t. t && eqb (get_or rest (count - 1) 0) 13) (ne_eqb count (length rest) (λ q. absurd (omega arith)));
      ended = λ q. let none : length (drop count rest) ≡ 0 = ap length q in let all : count ≡ length rest = omega arith in
          e ∙ ap (λ t. t && eqb (get_or rest (count - 1) 0) 13) (eq-eqb count (length rest) all) ∙ ap (λ k. eqb (get_or rest (k - 1) 0) 13) all
          ∙ sym (waits_last rest some);
    }

-- ---- the bytes of a word

letter_parts : (b : ℕ) → IsLetter b → (eqb b 10 ≡ false) × (is_blank b ≡ false) × (b ≢ 13)
letter_parts b h =
    let no_return = or_parts (ends_word b) (eqb b 13) h in
    let no_end = or_parts (is_blank b) (eqb b 10) no_return.0 in
    (no_end.1, no_end.0, eqb-false b 13 no_return.1)

settled_letters : (prefix back : List ℕ) → AllByRecursion IsLetter prefix → settled (prefix ++ back) ≡ prefix ++ settled back
settled_letters [] back h = refl
settled_letters (b ∷ prefix) back h = settled-other b (prefix ++ back) (letter_parts b h.0).2 ∙ ap (λ ds. b ∷ ds) (settled_letters prefix back h.1)

waits_letters : (xs : List ℕ) → AllByRecursion IsLetter xs → waits xs ≡ false
waits_letters [] h = refl
waits_letters (b ∷ []) h = ne_eqb b 13 (letter_parts b h.0).2
waits_letters (b ∷ c ∷ xs) h = waits_letters (c ∷ xs) h.1

letters_scan : (w : Word) (n : ℕ) (p : Progress) (ds : List ℕ) → AllByRecursion IsLetter ds
    → scan (standing (Inside w) n p) ds ≡ Ok (standing (Inside (fold word_with w ds)) n p)
letters_scan w n p [] h = refl
letters_scan w n p (b ∷ ds) h = grind (arith, common_steps, byte_letter, letter_parts, standing, (letters_scan (word_with w b) n p ds h.1))

plain_letter : (b : ℕ) → IsPlain b → IsLetter b
plain_letter b p = grind (arith, common_steps, ne_eqb)

plain_letters : (ds : List ℕ) → AllByRecursion IsPlain ds → AllByRecursion IsLetter ds
plain_letters [] h = tt
plain_letters (b ∷ ds) h = (plain_letter b h.0, plain_letters ds h.1)

plain_begins : (m : Mode) (b : ℕ) → is_before_word m ≡ true → IsPlain b → letter_mode m b ≡ Inside (word_from b)
plain_begins Comment b e h = cc
plain_begins Between b e h = refl
plain_begins (Inside w) b e h = cc
plain_begins _ b e h = ap (λ t. cond t Comment (Inside (word_from b))) h.1

word_scan : (m : Mode) (n : ℕ) (p : Progress) (ds : List ℕ) → is_before_word m ≡ true → 0 < length ds → AllByRecursion IsPlain ds
    → scan (standing m n p) ds ≡ Ok (standing (Inside (summary ds)) n p)
word_scan m n p [] before l h = absurd (let no : 0 < 0 = l in omega arith)
word_scan m n p (b ∷ ds) before l h = grind (arith, common_steps, byte_letter, letter_parts, letters_scan, plain_begins, plain_letter, plain_letters, standing)

-- bytes of a word at the start, which lead from one state to another
letters_scanned : (s t : State) (rest : List ℕ) (count : ℕ) (w : Bool) → AllByRecursion IsLetter (take count rest) → scan s (take count rest) ≡ Ok t
    → w ≡ false → IsScanned s t w rest (drop count rest)
letters_scanned s t rest count w all ran e =
    let parts : take count rest ++ drop count rest ≡ rest = take-append-drop count rest in
    search (rules, settled_letters, scan-append, meets_behind, waits_behind, append-nil, waits_letters)

-- one more
pub letters_more : (bytes : List ℕ) (i : ℕ) → i < length bytes → IsLetter (get_or bytes i 0) → AllByRecursion IsLetter (take i bytes)
    → AllByRecursion IsLetter (take (i + 1) bytes)
letters_more bytes i l one so = rw (take_push bytes i l) (push (take i bytes) so)
  where
    push : (ds : List ℕ) → AllByRecursion IsLetter ds → AllByRecursion IsLetter (ds ++ get_or bytes i 0 ∷ [])
    push [] h = (one, tt)
    push (d ∷ ds) h = (h.0, push ds h.1)

-- a word goes on with these bytes
pub word_goes_on : (s : State) (first word : Word) (rest : List ℕ) (count : ℕ) (w : Bool) → s.mode ≡ Inside first → AllByRecursion IsLetter (take count rest)
    → word ≡ fold word_with first (take count rest) → w ≡ false → IsScanned s (record s { mode = Inside word }) w rest (drop count rest)
word_goes_on s first word rest count w mode all value e =
    let is : s ≡ standing (Inside first) s.line s.progress = ap (λ (m : Mode). standing m s.line s.progress) mode in
    letters_scanned s (record s { mode = Inside word }) rest count w all
    (ap (λ t. scan t (take count rest)) is ∙ letters_scan first s.line s.progress (take count rest) all
    ∙ ap (λ k. Ok (standing (Inside k) s.line s.progress)) (sym value)) e

-- nothing makes such a word one of the grammar
pub others_stay : (ds : List ℕ) → Other ≡ fold word_with Other ds
others_stay [] = refl
others_stay (b ∷ ds) = others_stay ds

-- ---- the digits of a number

digit_plain : (b : ℕ) → is_digit b ≡ true → IsPlain b
digit_plain b d = let low : 48 ≤ b = (digit_bounds b d).0 in (omega arith, ne_eqb b 37 (λ e. absurd (omega arith)))

pub digits_plain : (ds : List ℕ) → digits_alone ds ≡ true → AllByRecursion IsPlain ds
digits_plain [] h = tt
digits_plain (b ∷ ds) h = let p = and_parts (is_digit b) (digits_alone ds) h in (digit_plain b p.0, digits_plain ds p.1)

pub digits_letters : (ds : List ℕ) → digits_alone ds ≡ true → AllByRecursion IsLetter ds
digits_letters ds h = plain_letters ds (digits_plain ds h)

-- ---- a whole word

-- the word has come
pub word_scanned : (s : State) (rest : List ℕ) (kept : Word) (count : ℕ) (w : Bool) → is_before_word s.mode ≡ true → IsKept rest kept count → w ≡ false
    → IsScanned s (record s { mode = Inside kept }) w rest (drop count rest)
word_scanned s rest kept count w before is e =
    let some : 0 < count = is.some in
    let within : count ≤ length rest = is.within in
    let long : length (take count rest) ≡ min count (length rest) = length-take count rest in
    letters_scanned s (record s { mode = Inside kept }) rest count w (plain_letters (take count rest) is.plain)
    (word_scan s.mode s.line s.progress (take count rest) before (omega arith) is.plain ∙ ap (λ k. Ok (standing (Inside k) s.line s.progress)) (sym is.word)) e

-- ---- from a place on

-- the slice from a place on
pub rest_is : (bytes : List ℕ) (place : ℕ) → take (length bytes - place) (drop place bytes) ≡ drop place bytes
rest_is bytes place = ap (λ k. take k (drop place bytes)) (sym (length-drop place bytes)) ∙ take-length (drop place bytes)
