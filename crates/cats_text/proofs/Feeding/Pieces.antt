-- What a reader answers to one more piece.
use Rattle.cats_text.proofs.Common.{rules, ◌≡◌, ℕ, suc, zero, ◌+◌, ◌-◌, ◌<◌, ◌≤◌, min, Bool, false, List, [], ◌∷◌, ◌++◌, length, take, Some, None, refl, sym}
use Rattle.cats_text.proofs.Common.{ap, ◌∙◌, arith, inl, inr, ◌⊎◌, Result, Ok, Err, length-append, ◌^◌, option_or, result_err, le-leb, lt-leb, leb_tells}
use Rattle.cats_text.proofs.Common.{complete_fault, first_fault, has_bid_line, fault_at, Fed, fed_fault, HasTaken, IsReading, SpellsParts, PartsAnswer}
use Rattle.cats_text.proofs.Common.{placed_fault, WantsMemory, FeedsAs, settled, waits, carried, State, state, first_state, Scan, scan, Scans, MeetsBidLine}
use Rattle.cats_text.proofs.Common.{end_of, ArePartsOf, Finishes, IsInBidLine, HasBids, ReadFault, Kind, TooLong, Memory, Header, PlainBid, Scanner, take_all}
use Rattle.cats_text.proofs.Common.{common_steps}
use Rattle.cats_text.proofs.Scanning.Lines.{scan-append}
use Rattle.cats_text.proofs.Texts.MachineAnswers.{stops_at_complete_fault, continues_without_fault, meets_bid_line, complete_fault_is_first, ends_at_parts}
use Rattle.cats_text.proofs.Texts.MachineAnswers.{ends_at_first_fault, ends_in_bid_line}
use Rattle.cats_text.proofs.Scanning.Pieces.{settled-append, waits-append}
use Rattle.cats_text.proofs.Scanning.Appends.{meets_behind, scan-line, settled-length}

-- ---- the bytes that are judged

take-behind : (n : ℕ) (xs ys : List ℕ) → length xs ≤ n → take n (xs ++ ys) ≡ xs ++ take (n - length xs) ys
take-behind n [] ys h = let whole : n - 0 ≡ n = omega arith in rw whole refl
take-behind zero (x ∷ xs) ys h = absurd (omega arith)
take-behind (suc n) (x ∷ xs) ys h = grind (arith, common_steps, (take-behind n xs ys))

take-min : (n : ℕ) (xs : List ℕ) → take (min (length xs) n) xs ≡ take n xs
take-min zero [] = refl
take-min (suc n) [] = let none : min zero (suc n) ≡ zero = omega arith in rw none refl
take-min zero (x ∷ xs) = let none : min (suc (length xs)) zero ≡ zero = omega arith in rw none refl
take-min (suc n) (x ∷ xs) = let more : min (suc (length xs)) (suc n) ≡ suc (min (length xs) n) = omega arith in rw more (ap (λ l. x ∷ l) (take-min n xs))

-- the scanner is given what is left of the limit
pub judged_bytes : (limit count : ℕ) (bytes piece : List ℕ) → count ≡ length bytes → count ≤ limit
    → bytes ++ take (min (length piece) (limit - count)) piece ≡ take limit (bytes ++ piece)
judged_bytes limit count bytes piece c within = grind (arith, common_steps, take-behind, take-min)

-- ---- the machine on them

scan_on : (k : PlainBid → PlainBid) (bytes taken : List ℕ) (s : State) (waiting : Bool) → scan (first_state k) (settled bytes) ≡ Ok s → waiting ≡ waits bytes
    → scan (first_state k) (settled (bytes ++ taken)) ≡ scan s (settled (carried waiting taken))
scan_on k bytes taken s waiting runs w = grind (arith, common_steps, scan-append, settled-append)

-- no fault in bytes within the limit
pub fed-within : (limit : ℕ) (bytes : List ℕ) → length bytes ≤ limit → fed_fault limit bytes ≡ complete_fault bytes
fed-within limit bytes h = rw (le-leb (length bytes) limit h) refl

fed-beyond : (limit : ℕ) (bytes : List ℕ) → limit < length bytes
    → fed_fault limit bytes ≡ option_or (complete_fault (take limit bytes)) (Some (fault_at 0 TooLong))
fed-beyond limit bytes h = rw (lt-leb (length bytes) limit h) refl

-- a fault that is complete in what is judged
pub fed-judged : (limit : ℕ) (bytes : List ℕ) (e : ReadFault) → complete_fault (take limit bytes) ≡ Some e → fed_fault limit bytes ≡ Some e
fed-judged limit bytes e h = grind (arith, common_steps, fed-beyond, fed-within, leb_tells, take_all)

-- none, and there are too many
pub fed-too_long : (limit : ℕ) (bytes : List ℕ) → limit < length bytes → complete_fault (take limit bytes) ≡ None
    → fed_fault limit bytes ≡ Some (fault_at 0 TooLong)
fed-too_long limit bytes beyond h = fed-beyond limit bytes beyond ∙ ap (λ f. option_or f (Some (fault_at 0 TooLong))) h

pub nothing_taken : {K : Type 0} (k : PlainBid → PlainBid) (limit : ℕ) (scanner : Scanner K) (bytes : List ℕ) → state k scanner ≡ first_state k
    → scanner.waiting ≡ false → bytes ≡ [] → HasTaken k limit 0 scanner bytes
nothing_taken k limit scanner bytes first waiting none = grind (arith, common_steps)

-- ---- the answers

-- the scanner took them
pub went_on : {K : Type 0} (k : PlainBid → PlainBid) (limit taken : ℕ) (old new : Scanner K) (bytes judged : List ℕ) → HasTaken k limit taken old bytes
    → scan (state k old) (settled (carried old.waiting judged)) ≡ Ok (state k new) → complete_fault (bytes ++ judged) ≡ None
went_on k limit taken old new bytes judged kept steps = continues_without_fault k (bytes ++ judged) (state k new) (search (rules, scan_on))

-- and has taken them then
pub took : {K : Type 0} (k : PlainBid → PlainBid) (limit before count : ℕ) (old new : Scanner K) (bytes judged : List ℕ) → HasTaken k limit before old bytes
    → scan (state k old) (settled (carried old.waiting judged)) ≡ Ok (state k new)
    → new.waiting ≡ waits (carried old.waiting judged) → count ≡ before + length judged → count ≤ limit → HasTaken k limit count new (bytes ++ judged)
took k limit before count old new bytes judged kept steps waiting sum within = grind (arith, common_steps, length-append, scan_on, waits-append)

-- the number of the line stays small
pub few_lines : {K : Type 0} (k : PlainBid → PlainBid) (limit taken : ℕ) (scanner : Scanner K) (bytes : List ℕ) → HasTaken k limit taken scanner bytes
    → scanner.line ≤ suc taken
few_lines k limit taken scanner bytes kept =
    let lines = scan-line (first_state k) (settled bytes) in
    search (rules, settled-length)

-- what judging a piece answers, all bytes so far being these
abbrev pub IsJudged : {K : Type 0} → (PlainBid → PlainBid) → ℕ → ℕ → Scanner K → List ℕ → Result (Unit {0}) ReadFault → Type 0
IsJudged k limit count scanner all (Ok u) = (fed_fault limit all ≡ None) × HasTaken k limit count scanner all
IsJudged k limit count scanner all (Err e) = (fed_fault limit all ≡ Some e) ⊎ WantsMemory (take limit all) e

-- the scanner stopped in the bytes that are judged
pub judged_halted : {K : Type 0} (k : PlainBid → PlainBid) (limit count taken : ℕ) (old new : Scanner K) (bytes judged all : List ℕ) (kind : Kind)
    → HasTaken k limit taken old bytes → bytes ++ judged ≡ take limit all → Scans (settled (carried old.waiting judged)) (state k old) (state k new) (Err kind)
    → IsJudged k limit count new all (Err (placed_fault new.line kind))
judged_halted k limit count taken old new bytes judged all Memory kept is needs =
    let behind = meets_behind (first_state k) (state k old) (settled bytes) (settled (carried old.waiting judged)) kept.runs needs in
    let met : MeetsBidLine (first_state k) (settled (bytes ++ judged)) = rw (settled-append bytes judged, ← kept.waiting) behind in
    inr (refl, ap has_bid_line (sym is) ∙ meets_bid_line k (bytes ++ judged) met)
judged_halted k limit count taken old new bytes judged all kind kept is read =
    inl (fed-judged limit all (fault_at new.line kind) (ap complete_fault (sym is) ∙
    stops_at_complete_fault k (bytes ++ judged) (fault_at new.line kind)
    (scan_on k bytes judged (state k old) old.waiting kept.runs kept.waiting ∙ read)))

pub judged_too_long : {K : Type 0} (k : PlainBid → PlainBid) (limit count taken : ℕ) (old new : Scanner K) (bytes judged all : List ℕ)
    → HasTaken k limit taken old bytes → bytes ++ judged ≡ take limit all → limit < length all
    → scan (state k old) (settled (carried old.waiting judged)) ≡ Ok (state k new) → IsJudged k limit count new all (Err (fault_at 0 TooLong))
judged_too_long k limit count taken old new bytes judged all kept is beyond steps =
    inl (fed-too_long limit all beyond (ap complete_fault (sym is) ∙ went_on k limit taken old new bytes judged kept steps))

pub judged_ok : {K : Type 0} (k : PlainBid → PlainBid) (limit count before : ℕ) (old new : Scanner K) (bytes judged all : List ℕ)
    → HasTaken k limit before old bytes → bytes ++ judged ≡ all → length all ≤ limit
    → scan (state k old) (settled (carried old.waiting judged)) ≡ Ok (state k new)
    → new.waiting ≡ waits (carried old.waiting judged) → count ≡ before + length judged → count ≤ limit → IsJudged k limit count new all (Ok tt)
judged_ok k limit count before old new bytes judged all kept is within steps waiting sum most =
    let none : complete_fault all ≡ None = ap complete_fault (sym is) ∙ went_on k limit before old new bytes judged kept steps in
    let now : HasTaken k limit count new all = rw (← is) (took k limit before count old new bytes judged kept steps waiting sum most) in
    (fed-within limit all within ∙ none, now)

-- the reader keeps what it has to
pub still_reading : {K : Type 0} (k : PlainBid → PlainBid) (limit count : ℕ) (scanner : Scanner K) (all : List ℕ) (judged : Result (Unit {0}) ReadFault)
    → limit < 2 ^ 63 → IsJudged k limit count scanner all judged → IsReading k limit count scanner (result_err judged) all
still_reading k limit count scanner all (Ok u) small reported = record { limit = small; taken = λ none. reported.1 }
still_reading k limit count scanner all (Err e) small reported = record { limit = small; taken = λ none. cc }

pub fed_reported : {K : Type 0} (k : PlainBid → PlainBid) (old : Fed) (piece : List ℕ) (count : ℕ) (scanner : Scanner K) (judged : Result (Unit {0}) ReadFault)
    → old.failed ≡ None → IsJudged k old.limit count scanner (old.bytes ++ piece) judged
    → FeedsAs old piece (record { limit = old.limit; bytes = old.bytes ++ piece; failed = result_err judged }) judged
fed_reported k old piece count scanner (Ok u) none reported = rw none (record { limit = refl; bytes = refl; answer = (reported.0, refl) })
fed_reported k old piece count scanner (Err e) none reported = rw none (record { limit = refl; bytes = refl; answer = (reported, refl) })

-- ---- the end of the input

pub ended_parts : {K : Type 0} (bids : K → List PlainBid) (k : PlainBid → PlainBid) (limit taken : ℕ) (scanner : Scanner K) (bytes : List ℕ)
    (answer : Result (Header × K) ReadFault) → HasTaken k limit taken scanner bytes → Finishes k bids scanner.waiting (state k scanner) answer
    → PartsAnswer k bids bytes answer
ended_parts bids k limit taken scanner bytes (Ok parts) kept are = at_end (end_of scanner.waiting (state k scanner)) refl are
  where
    at_end : (r : Scan) → end_of scanner.waiting (state k scanner) ≡ r → ArePartsOf k bids parts r → SpellsParts k bytes parts.0 (bids parts.1)
    at_end (Ok t) e same = rw (same.0, same.1) (ends_at_parts k bytes (state k scanner) t kept.runs (ap (λ w. end_of w (state k scanner)) (sym kept.waiting)
        ∙ e) same.2)
    at_end (Err fault) e same = absurd same
ended_parts bids k limit taken scanner bytes (Err e) kept (inl ends) = grind (arith, common_steps, ends_at_first_fault)
ended_parts bids k limit taken scanner bytes (Err e) kept (inr lacks) =
    let memory : IsInBidLine (state k scanner) ⊎ HasBids (end_of (waits bytes) (state k scanner)) = rw (← kept.waiting) lacks.1 in
    inr (lacks.0, ends_in_bid_line k bytes (state k scanner) kept.runs memory)

-- a whole text that was fed at once
pub whole_reported : (text bytes : List ℕ) (limit : ℕ) (e : ReadFault) → limit ≡ length text → bytes ≡ text
    → (fed_fault limit bytes ≡ Some e) ⊎ WantsMemory (take limit bytes) e → (first_fault text ≡ Some e) ⊎ WantsMemory text e
whole_reported text bytes limit e most same (inl fault) = grind (arith, common_steps, complete_fault_is_first, fed-within)
whole_reported text bytes limit e most same (inr want) = grind (arith, common_steps, take_all)
