-- The `#` and the LF that end a bid line.
use Rattle.cats_text.proofs.Common.{rules, ◌≡◌, ◌≢◌, ℕ, ◌+◌, ◌<◌, Bool, true, false, cond, eqb, List, length, get_or, refl, ap, arith, Ok, Err, eqb-true}
use Rattle.cats_text.proofs.Common.{IsLeadingToken, word_read, line_read, end_read, bid_closed, with_bid, Progress, Gives, State, is_before_word, IsGoodDue}
use Rattle.cats_text.proofs.Common.{ScansTo, Kind, EmptyBundle, Later, Ended, Bid, Start, End, common_steps}
use Rattle.cats_text.specs.declared.word.Word.{Word}
use Rattle.cats_text.proofs.Scanning.Rests.{scan_byte_at}
use Rattle.cats_text.proofs.Scanning.WholeWords.{behind_word, word_taken, word_halts, stops_in}

-- behind a word of one byte with no blank there is LF
token_one : (bytes : List ℕ) (w : Word) → IsLeadingToken bytes w 1 → (1 < length bytes) × (get_or bytes 1 0 ≡ 10)
token_one bytes w token = grind (arith, common_steps, eqb-true)

no_return : (b : ℕ) → b ≡ 10 → b ≢ 13
no_return b e q = omega arith

-- ---- the parser

abbrev ended : Progress → Progress
ended p = record p { column = Ended }

end_word : (p : Progress) → p.stage ≡ Bid → p.column ≡ Later → word_read p End ≡ end_read p
end_word p stage column = grind (arith, common_steps)

end_line : (p : Progress) → p.stage ≡ Bid → line_read (ended p) ≡ Ok (with_bid p)
end_line p stage = grind (arith, common_steps)

-- of a bid with a good the `#` is read, and the bid is put
put_by : (p q : Progress) (t : Bool) → cond t (Err EmptyBundle) (Ok (with_bid p)) ≡ Ok q
    → (cond t (Err EmptyBundle) (Ok (ended p)) ≡ Ok (ended p)) × (with_bid p ≡ q)
put_by p q true h = cc
put_by p q false h = (refl, cc)

-- of one without a good it is not read
stopped_by : (p : Progress) (kind : Kind) (t : Bool) → cond t (Err EmptyBundle) (Ok (with_bid p)) ≡ Err kind
    → cond t (Err EmptyBundle) (Ok (ended p)) ≡ Err kind
stopped_by p kind true h = h
stopped_by p kind false h = cc

-- ---- the scanner

pub end_passed : (s : State) (p : Progress) (v w : Bool) (bytes : List ℕ) → IsGoodDue s → IsLeadingToken bytes End 1 → bid_closed s.progress ≡ Ok p → v ≡ false
    → w ≡ v → ScansTo s (record { mode = Start; line = s.line + 1; progress = p }) w bytes (Ok 2)
end_passed s p v w bytes due token closed e same =
    let before : is_before_word s.mode ≡ true = ap is_before_word due.mode in
    let put = put_by s.progress p (eqb (length s.progress.goods) 0) closed in
    search (rules, end_word, behind_word, word_taken, token_one, end_line, scan_byte_at, no_return)

-- or the parser stops
pub end_halts : (s : State) (u : Progress) (v : Bool) (bytes : List ℕ) (kind : Kind) → IsGoodDue s → IsLeadingToken bytes End 1
    → Gives bid_closed s.progress u (Err kind) → ScansTo s (record s { progress = u }) v bytes (Err kind)
end_halts s u v bytes kind due token stop = search (rules, word_halts, stops_in, end_word, stopped_by)
