-- Where the scanner is in a bid line, a fourth significant line has begun. The idea: line by line, the lines that are left and the
-- header lines that have ended are more than three.
use Rattle.cats_text.proofs.Common.{◌≡◌, ℕ, suc, ◌+◌, ◌<◌, ◌≤◌, Bool, true, false, not, cond, eqb, ◌⊎◌, inl, inr, ⊎_elim, List, [], ◌∷◌, ◌++◌, length, ap}
use Rattle.cats_text.proofs.Common.{refl, sym, ◌∙◌, subst, arith, Ok, Err, IsOkAnd, lt-ltb, both_ways, append_assoc, length-append, AllByRecursion, Word}
use Rattle.cats_text.proofs.Common.{Line, raw_lines, line_words, is_significant, is_blank, numbered, blank_returns, has_bid_line, summary, Progress, Reading}
use Rattle.cats_text.proofs.Common.{word_read, PlainBid, State, Scan, and_then, scan, byte_step, blank_step, words_step, next_line, with_reading, letter_mode}
use Rattle.cats_text.proofs.Common.{MeetsBidLine, IsInLine, IsInBidLine, first_state, start, word_from, Bid, Mode, Start, Blank, Comment, Between, Inside}
use Rattle.cats_text.proofs.Common.{ReadFault, RawLine, filter, common_steps}
use Rattle.cats_text.proofs.Words.Kept.{summary-push}
use Rattle.cats_text.proofs.Parsing.States.{IsAt, WordFollows, stage_of}
use Rattle.cats_text.proofs.Parsing.Lines.{word_step}
use Rattle.cats_text.proofs.Parsing.WholeLines.{Scanned, LineIs, whole_line, whole_line_step}
use Rattle.cats_text.proofs.Scanning.Lines.{IsNoEnd, standing, word_mode, byte_letter, byte_blank, first_of_words, words_blank}
use Rattle.cats_text.proofs.Scanning.AllBytes.{text_of, text_of-lines, AreRaw, AreRaw-lines, tail_raw, line_and_rest, then_from}
use Rattle.cats_text.proofs.Texts.FirstFaults.{words_are, significant_pos, at_start}

-- ---- bytes and more bytes

met_now : (s : State) (ys : List ℕ) → IsInBidLine s → MeetsBidLine s ys
met_now s [] i = i
met_now s (b ∷ bs) i = inl i

both_ok : (r : Scan) (P Q : State → Type 0) → ((t : State) → P t → Q t) → IsOkAnd r P → IsOkAnd r Q
both_ok (Ok t) P Q h p = h t p
both_ok (Err e) P Q h p = absurd p

met_more : (s : State) (xs ys : List ℕ) → MeetsBidLine s xs → MeetsBidLine s (xs ++ ys)
met_more s [] ys m = met_now s ys m
met_more s (x ∷ xs) ys (inl i) = inl i
met_more s (x ∷ xs) ys (inr m) = inr (both_ok (byte_step s x) (λ t. MeetsBidLine t xs) (λ t. MeetsBidLine t (xs ++ ys)) (λ t k. met_more t xs ys k) m)

-- met in the first bytes, or behind them
met_split : (s : State) (xs ys : List ℕ) → MeetsBidLine s (xs ++ ys) → MeetsBidLine s xs ⊎ IsOkAnd (scan s xs) (λ t. MeetsBidLine t ys)
met_split s [] ys m = inr m
met_split s (x ∷ xs) ys (inl i) = inl (inl i)
met_split s (x ∷ xs) ys (inr m) = by (byte_step s x) refl m (λ t k. met_split t xs ys k)
  where
    by : (r : Scan) → byte_step s x ≡ r → IsOkAnd r (λ t. MeetsBidLine t (xs ++ ys))
        → ((t : State) → MeetsBidLine t (xs ++ ys) → MeetsBidLine t xs ⊎ IsOkAnd (scan t xs) (λ u. MeetsBidLine u ys))
        → MeetsBidLine s (x ∷ xs) ⊎ IsOkAnd (and_then r (λ t. scan t xs)) (λ t. MeetsBidLine t ys)
    by (Ok t) e k next = ⊎_elim (λ (here : MeetsBidLine t xs). inl (inr (subst (λ (r : Scan). IsOkAnd r (λ u. MeetsBidLine u xs)) (sym e) here)))
        (λ (later : IsOkAnd (scan t xs) (λ u. MeetsBidLine u ys)). inr later) (next t k)
    by (Err c) e k next = absurd k

abbrev stopped : ReadFault → Scan
stopped e = Err e

-- met where they end
pub met_at_end : (s t : State) (bytes : List ℕ) → scan s bytes ≡ Ok t → IsInBidLine t → MeetsBidLine s bytes
met_at_end s t [] h i = grind (arith, common_steps)
met_at_end s t (b ∷ bs) h i = inr (step (byte_step s b) h (λ u e. met_at_end u t bs e i))
  where
    no : (e : ReadFault) → stopped e ≡ Ok t → ⊥
    no e q = cc

    step : (r : Scan) → and_then r (λ u. scan u bs) ≡ Ok t → ((u : State) → scan u bs ≡ Ok t → MeetsBidLine u bs) → IsOkAnd r (λ u. MeetsBidLine u bs)
    step (Ok u) e next = next u e
    step (Err c) e next = absurd (no c e)

-- ---- the bytes of a line

-- behind a blank, or behind a letter
abbrev MetByte : State → ℕ → List ℕ → Type 0
MetByte s b bs = ((is_blank b ≡ true) × IsOkAnd (blank_step s) (λ t. MeetsBidLine t bs))
    ⊎ ((is_blank b ≡ false) × MeetsBidLine (record s { mode = letter_mode s.mode b }) bs)

met_byte : (s : State) (b : ℕ) (bs : List ℕ) → eqb b 10 ≡ false → IsOkAnd (byte_step s b) (λ t. MeetsBidLine t bs) → MetByte s b bs
met_byte s b bs h m = by (is_blank b) refl
  where
    by : (t : Bool) → is_blank b ≡ t → MetByte s b bs
    by true e = inl (e, subst (λ (r : Scan). IsOkAnd r (λ u. MeetsBidLine u bs)) (byte_blank s b h e) m)
    by false e = inr (e, subst (λ (r : Scan). IsOkAnd r (λ u. MeetsBidLine u bs)) (byte_letter s b h e) m)

-- a comment goes on to the end of its line
met_comment : (n : ℕ) (p : Progress) (bs : List ℕ) → AllByRecursion IsNoEnd bs → MeetsBidLine (standing Comment n p) bs → ⊥
met_comment n p [] h m = m.1
met_comment n p (b ∷ bs) h (inl i) = i.1
met_comment n p (b ∷ bs) h (inr m) = ⊎_elim (λ (k : (is_blank b ≡ true) × MeetsBidLine (standing Comment n p) bs). met_comment n p bs h.1 k.1)
    (λ (k : (is_blank b ≡ false) × MeetsBidLine (standing Comment n p) bs). met_comment n p bs h.1 k.1) (met_byte (standing Comment n p) b bs h.0 m)

-- the line after these is a bid line
bid_stage : (lines : List (List Word)) → stage_of lines ≡ Bid → 3 ≤ length lines
bid_stage (g ∷ b ∷ d ∷ lines) e = omega arith
bid_stage [] e = absurd (cc)
bid_stage (g ∷ []) e = absurd (cc)
bid_stage (g ∷ b ∷ []) e = absurd (cc)

module _ (n : ℕ) (lines : List (List Word)) where
  -- behind these words and in one of which this has come, or behind a word
  abbrev MetInLine : List ℕ → Type 0
  MetInLine bs = (words : List Word) (w : List ℕ) (p : Progress) → IsAt lines words p → MeetsBidLine (standing (word_mode w) n p) bs → 3 ≤ length lines

  behind_word : (bs : List ℕ) → MetInLine bs → (words : List Word) (w : List ℕ) (p : Progress) → IsAt lines words p
      → IsOkAnd (blank_step (standing (word_mode w) n p)) (λ t. MeetsBidLine t bs) → 3 ≤ length lines
  behind_word bs next words [] p at m = next words [] p at m
  behind_word bs next words (a ∷ w) p at m = read (word_read p (summary (a ∷ w))) (word_step lines words a w p at) m
    where
      read : (r : Reading) → WordFollows lines words (a ∷ w) r → IsOkAnd (with_reading (standing (word_mode (a ∷ w)) n p) Between r) (λ t. MeetsBidLine t bs)
          → 3 ≤ length lines
      read (Ok q) f m = next (words ++ (a ∷ w) ∷ []) [] q f.1 m
      read (Err kind) f m = absurd m

  more_letters : (w : List ℕ) (b : ℕ) → letter_mode (word_mode w) b ≡ word_mode (w ++ b ∷ [])
  more_letters [] b = refl
  more_letters (a ∷ w) b = ap (λ s. Inside s) (sym (summary-push a w b))

  met_word : (bs : List ℕ) → AllByRecursion IsNoEnd bs → MetInLine bs
  met_word [] h words w p at m = bid_stage lines (sym at.stage ∙ m.0)
  met_word (b ∷ bs) h words w p at (inl i) = bid_stage lines (sym at.stage ∙ i.0)
  met_word (b ∷ bs) h words w p at (inr m) =
      ⊎_elim (λ (k : (is_blank b ≡ true) × IsOkAnd (blank_step (standing (word_mode w) n p)) (λ t. MeetsBidLine t bs)).
      behind_word bs (met_word bs h.1) words w p at k.1)
      (λ (k : (is_blank b ≡ false) × MeetsBidLine (standing (letter_mode (word_mode w) b) n p) bs). met_word bs h.1 words (w ++ b ∷ []) p at
      (subst (λ (m : Mode). MeetsBidLine (standing m n p) bs) (more_letters w b) k.1))
      (met_byte (standing (word_mode w) n p) b bs h.0 m)

significant_letter : (b : ℕ) (bs : List ℕ) → is_blank b ≡ false → is_significant (line_words (b ∷ bs)) ≡ not (eqb b 37)
significant_letter b bs e = let f = first_of_words b bs e in ap is_significant f.2

abbrev IsFresh : Mode → Type 0
IsFresh m = ((b : ℕ) → letter_mode m b ≡ cond (eqb b 37) Comment (Inside (word_from b))) × (IsInLine m → ⊥)

-- before its first word: a bid line met in it has a word
met_fresh : (m : Mode) (n : ℕ) (lines : List (List Word)) (p : Progress) (bs : List ℕ) → IsFresh m → blank_step (standing m n p) ≡ Ok (standing Blank n p)
    → IsAt lines [] p → AllByRecursion IsNoEnd bs → MeetsBidLine (standing m n p) bs → (3 ≤ length lines) × (is_significant (line_words bs) ≡ true)
met_fresh m n lines p [] fresh step at h k = absurd (fresh.1 k.1)
met_fresh m n lines p (b ∷ bs) fresh step at h (inl i) = absurd (fresh.1 i.1)
met_fresh m n lines p (b ∷ bs) fresh step at h (inr k) =
    ⊎_elim (λ (k : (is_blank b ≡ true) × IsOkAnd (blank_step (standing m n p)) (λ t. MeetsBidLine t bs)).
    let rest : (3 ≤ length lines) × (is_significant (line_words bs) ≡ true) = met_fresh Blank n lines p bs (λ b. refl, λ i. i) refl at h.1
    (subst (λ (r : Scan). IsOkAnd r (λ u. MeetsBidLine u bs)) step k.1) in
    (rest.0, ap is_significant (words_blank b bs k.0) ∙ rest.1))
    (λ (k : (is_blank b ≡ false) × MeetsBidLine (standing (letter_mode m b) n p) bs). letter k.0 (eqb b 37) refl
    (subst (λ (mode : Mode). MeetsBidLine (standing mode n p) bs) (fresh.0 b) k.1))
    (met_byte (standing m n p) b bs h.0 k)
  where
    letter : is_blank b ≡ false → (c : Bool) → eqb b 37 ≡ c → MeetsBidLine (standing (cond c Comment (Inside (word_from b))) n p) bs
        → (3 ≤ length lines) × (is_significant (line_words (b ∷ bs)) ≡ true)
    letter e true c k = absurd (met_comment n p bs h.1 k)
    letter e false c k = (met_word n lines bs h.1 [] (b ∷ []) p at k, significant_letter b bs e ∙ ap not c)

-- not in the LF behind it
met_feed : (n : ℕ) (p : Progress) (bs : List ℕ) → MeetsBidLine (standing Start n p) (bs ++ 10 ∷ []) → MeetsBidLine (standing Start n p) bs
met_feed n p bs m = ⊎_elim (λ (here : MeetsBidLine (standing Start n p) bs). here)
    (λ (k : IsOkAnd (scan (standing Start n p) bs) (λ t. MeetsBidLine t (10 ∷ []))). at_end (scan (standing Start n p) bs) refl k)
    (met_split (standing Start n p) bs (10 ∷ []) m)
  where
    none : (r : Scan) → IsOkAnd (and_then r next_line) (λ u. IsInBidLine u) → ⊥
    none (Ok t) k = k.1
    none (Err e) k = k

    at_end : (r : Scan) → scan (standing Start n p) bs ≡ r → IsOkAnd r (λ t. MeetsBidLine t (10 ∷ [])) → MeetsBidLine (standing Start n p) bs
    at_end (Ok t) e (inl i) = met_at_end (standing Start n p) t bs e i
    at_end (Ok t) e (inr k) = absurd (none (and_then (blank_step t) words_step) k)
    at_end (Err c) e k = absurd k

-- ---- all lines

abbrev counted : ℕ → List RawLine → ℕ
counted n ls = length (filter (λ (l : Line). is_significant l.words) (numbered n ls))

counted_more : (n : ℕ) (l : RawLine) (ls : List RawLine) → is_significant (line_words l.bytes) ≡ true → counted n (l ∷ ls) ≡ suc (counted (suc n) ls)
counted_more n l ls e = rw e refl

counted_same : (n : ℕ) (l : RawLine) (ls : List RawLine) → is_significant (line_words l.bytes) ≡ false → counted n (l ∷ ls) ≡ counted (suc n) ls
counted_same n l ls e = rw e refl

-- a bid line is met behind a line of which this came out
abbrev MeetsBehind : ℕ → List RawLine → Scanned → Type 0
MeetsBehind n ls o = IsOkAnd (then_from o (λ q. Ok (standing Start (suc n) q))) (λ u. MeetsBidLine u (text_of ls))

-- in the first line, or behind it
met_first : (n : ℕ) (lines : List (List Word)) (p : Progress) (l : RawLine) (ls : List RawLine) → AreRaw (l ∷ ls) → IsAt lines [] p
    → MeetsBidLine (standing Start n p) (text_of (l ∷ ls))
    → ((more : List (List Word)) (q : Progress) → IsAt more [] q → MeetsBidLine (standing Start (suc n) q) (text_of ls) → 3 < length more + counted (suc n) ls)
    → 3 < length lines + counted n (l ∷ ls)
met_first n lines p l ls r at m next = by l.ended refl
  where
    s : State
    s = standing Start n p

    raw : AllByRecursion IsNoEnd l.bytes × AreRaw ls
    raw = tail_raw l ls r

    line : Line
    line = record { number = n; words = line_words l.bytes; ended = true }

    here : MeetsBidLine s l.bytes → 3 < length lines + counted n (l ∷ ls)
    here k =
        let found = met_fresh Start n lines p l.bytes (λ b. refl, λ i. i) refl at raw.0 k in
        let three : 3 ≤ length lines = found.0 in
        let more : counted n (l ∷ ls) ≡ suc (counted (suc n) ls) = counted_more n l ls found.1 in
        omega arith

    judged : (o : Scanned) → LineIs true lines line o → is_significant (line_words l.bytes) ≡ true → MeetsBehind n ls o → 3 < length lines + counted n (l ∷ ls)
    judged (Ok q) f e k =
        let rest : 3 < length (lines ++ line_words l.bytes ∷ []) + counted (suc n) ls = next (lines ++ line_words l.bytes ∷ []) q f.1 k in
        let more : counted n (l ∷ ls) ≡ suc (counted (suc n) ls) = counted_more n l ls e in
        omega (arith, length-append lines (line_words l.bytes ∷ []))
    judged (Err place) f e k = absurd k

    behind : (c : Bool) → is_significant (line_words l.bytes) ≡ c → MeetsBehind n ls (cond c (whole_line line p) (Ok p)) → 3 < length lines + counted n (l ∷ ls)
    behind true e k = judged (whole_line line p) (whole_line_step true lines line p refl (significant_pos (line_words l.bytes) e, words_are l.bytes) at) e k
    behind false e k =
        let rest : 3 < length lines + counted (suc n) ls = next lines p at k in
        let same : counted n (l ∷ ls) ≡ counted (suc n) ls = counted_same n l ls e in
        omega arith

    at_end : (o : Scan) → scan s l.bytes ≡ o → IsOkAnd o (λ t. MeetsBidLine t []) → MeetsBidLine s l.bytes
    at_end (Ok t) q i = met_at_end s t l.bytes q i
    at_end (Err c) q i = absurd i

    last : (ls : List RawLine) → AreRaw (l ∷ ls) → l.ended ≡ false → IsOkAnd (scan s l.bytes) (λ t. MeetsBidLine t (text_of ls)) → MeetsBidLine s l.bytes
    last [] r e k = at_end (scan s l.bytes) refl k
    last (m ∷ ms) r e k = absurd (both_ways l.ended e r.1)

    by : (t : Bool) → l.ended ≡ t → 3 < length lines + counted n (l ∷ ls)
    by true e = ⊎_elim (λ (k : MeetsBidLine s (l.bytes ++ 10 ∷ [])). here (met_feed n p l.bytes k))
        (λ (k : IsOkAnd (scan s (l.bytes ++ 10 ∷ [])) (λ u. MeetsBidLine u (text_of ls))). behind (is_significant (line_words l.bytes)) refl
        (subst (λ (o : Scan). IsOkAnd o (λ u. MeetsBidLine u (text_of ls))) (line_and_rest n p l.bytes [] raw.0) k))
        (met_split s (l.bytes ++ 10 ∷ []) (text_of ls) (subst (MeetsBidLine s) (sym (append_assoc l.bytes (10 ∷ []) (text_of ls)))
        (subst (λ t. MeetsBidLine s (l.bytes ++ cond t (10 ∷ text_of ls) (text_of ls))) e m)))
    by false e = ⊎_elim here (λ (k : IsOkAnd (scan s l.bytes) (λ t. MeetsBidLine t (text_of ls))). here (last ls r e k))
        (met_split s l.bytes (text_of ls) (subst (λ t. MeetsBidLine s (l.bytes ++ cond t (10 ∷ text_of ls) (text_of ls))) e m))

met_lines : (n : ℕ) (lines : List (List Word)) (p : Progress) (ls : List RawLine) → AreRaw ls → IsAt lines [] p
    → MeetsBidLine (standing Start n p) (text_of ls) → 3 < length lines + counted n ls
met_lines n lines p [] r at m = absurd m.1
met_lines n lines p (l ∷ ls) r at m = met_first n lines p l ls r at m (λ more q f k. met_lines (suc n) more q ls (tail_raw l ls r).1 f k)

-- a bid line met in the bytes that are decided is in the text
pub bid_line_met : (k : PlainBid → PlainBid) (text token back : List ℕ) → blank_returns text ≡ token ++ back → MeetsBidLine (first_state k) token
    → has_bid_line text ≡ true
bid_line_met k text token back e m =
    let all : List ℕ = blank_returns text in
    let there : MeetsBidLine (first_state k) all = subst (MeetsBidLine (first_state k)) (sym e) (met_more (first_state k) token back m) in
    let four : 3 < 0 + counted 1 (raw_lines all) = met_lines 1 [] (start k) (raw_lines all) (AreRaw-lines all) (at_start k)
    (subst (MeetsBidLine (first_state k)) (sym (text_of-lines all)) there) in
    lt-ltb 3 (counted 1 (raw_lines all)) (omega arith)
