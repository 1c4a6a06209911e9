-- A good that is due is read as any word in its column is.
use Rattle.cats_text.proofs.Common.{rules, ◌≡◌, ℕ, Bool, true, List, sym, ap, ◌∙◌, subst, false, Ok, Err, arith, IsLeadingToken, Progress, Gives, good_read}
use Rattle.cats_text.proofs.Common.{word_read, State, IsGoodDue, ScansTo, is_before_word, Kind, Bid, Later, Mode, Number, common_steps}
use Rattle.cats_text.proofs.Scanning.WholeWords.{behind_word, word_taken, word_halts, stops_in}

good_word : (p : Progress) (n : ℕ) → p.stage ≡ Bid → p.column ≡ Later → word_read p (Number n) ≡ good_read p n
good_word p n stage column = grind (arith, common_steps)

-- it stays behind a word
pub good_taken : (s : State) (p : Progress) (v : Bool) (bytes : List ℕ) (good taken : ℕ) → IsGoodDue s → IsLeadingToken bytes (Number good) taken
    → good_read s.progress good ≡ Ok p → p.stage ≡ s.progress.stage → v ≡ false → ScansTo s (record s { progress = p }) v bytes (Ok taken)
good_taken s p v bytes good taken due token read stage e =
    let before : is_before_word s.mode ≡ true = ap is_before_word due.mode in
    let same : behind_word s p ≡ record s { progress = p } = ap (λ (m : Mode). record s { mode = m; progress = p }) (sym due.mode) in
    subst (λ (t : State). ScansTo s t v bytes (Ok taken)) same
    (word_taken s p v bytes (Number good) taken before token (good_word s.progress good due.stage due.column ∙ read) stage e)

-- or stops the parser
pub good_halts : (s : State) (u : Progress) (v : Bool) (bytes : List ℕ) (good taken : ℕ) (kind : Kind) → IsGoodDue s
    → IsLeadingToken bytes (Number good) taken → Gives (λ p. good_read p good) s.progress u (Err kind)
    → ScansTo s (record s { progress = u }) v bytes (Err kind)
good_halts s u v bytes good taken kind due token stop = word_halts s u v bytes (Number good) taken kind (ap is_before_word due.mode) token
    (search (rules, stops_in, good_word))
