-- `PushReader::feed`: what the scanner was given is what the limit leaves of the piece.
use Rattle.cats_text.proofs.Common.{rules, arith, ◌≡◌, ◌<◌, ◌≤◌, ◌+◌, ◌-◌, ◌++◌, min, ℕ, List, length, take, sym, ap, ◌∙◌, length-append, common_steps}
use Rattle.cats_text.proofs.Common.{take-length, length-take}
use Rattle.cats_text.proofs.Feeding.Pieces.{IsJudged, judged_bytes, judged_halted, judged_too_long, judged_ok, few_lines, still_reading, fed_reported}
use Rattle.cats_text.proofs.push_reader.PushReader.feed.Goals as goal
use Rattle.cats_text.proofs.push_reader.PushReader.feed.Goals.{in-Err, in-Ok, in-Ok-2}

pub take-requires : goal.take-requires
take-requires g c =
    let kept = c.self.invariant.taken c.in_default.is in
    let lines = few_lines _ _ _ _ _ kept in
    search (rules, length-take)

-- fewer bytes than the piece has fill the limit up
too_many : (limit count within : ℕ) (bytes piece : List ℕ) → count ≡ length bytes → within ≡ min (length piece) (limit - count) → within < length piece
    → limit < length (bytes ++ piece)
too_many limit count within bytes piece c w more = let sum = length-append bytes piece in omega arith

-- the whole piece was judged
all_judged : (limit count within : ℕ) (bytes piece : List ℕ) → count ≡ length bytes → count ≤ limit → within ≡ min (length piece) (limit - count)
    → length piece ≤ within → (length (bytes ++ piece) ≤ limit) × (take within piece ≡ piece) × (within ≡ length piece)
all_judged limit count within bytes piece c space w whole = grind (arith, common_steps, take-length)

judged : (g : _) (c : goal.After-self-2-1 g) → IsJudged g.K.Keep.keep c.self.inside.limit (c.self.inside.count + c.min-within.result) c.take.new.self
    (c.self.inside.history.bytes ++ c.args.piece.now) c.match-take.judged
judged g c =
    let limit = c.self.inside.limit in
    let count = c.self.inside.count in
    let within = c.min-within.result in
    let piece = c.args.piece.now in
    let bytes = c.self.inside.history.bytes in
    let all = bytes ++ piece in
    let kept = c.self.invariant.taken c.in_default.is in
    let is : bytes ++ take within piece ≡ take limit all = rw c.min-within.ensures (judged_bytes limit count bytes piece kept.count kept.within) in
    elim c.match-take.branch [
      | in-Err w ↦ rw (w.judged-is, w.at.ensures)
          (judged_halted _ _ (count + within) _ _ c.take.new.self _ _ all w.in-Err.kind kept is w.in-Err.ensures.steps)
      | in-Ok w ↦ rw (w.judged-is, w.whole.ensures)
          (judged_too_long _ _ (count + within) _ _ c.take.new.self _ _ all kept is
          (too_many limit count within bytes piece kept.count c.min-within.ensures w.if-within-piece.true) w.in-Ok.ensures.steps)
      | in-Ok-2 w ↦
          let whole = all_judged limit count within bytes piece kept.count kept.within c.min-within.ensures w.if-within-piece.false in
          rw w.judged-is
          (judged_ok _ _ _ _ _ _ _ _ all kept (ap (λ l. bytes ++ l) whole.1) whole.0 w.in-Ok-2.ensures.steps w.in-Ok-2.ensures.waiting
          (ap (λ n. count + n) (whole.2 ∙ ap length (sym whole.1))) (let sum = length-append bytes piece in let counted = kept.count in let more = whole.0 in
          let same = whole.2 in omega arith))
    ]

pub invariant_of-self : goal.invariant_of-self
invariant_of-self g c = rw (c.note.ensures, c.err-self-inside.ensures.value) (search (rules, still_reading, judged))

pub returns : goal.returns
returns g c =
    rw (← c.self.view_is, c.note.ensures, c.err-self-inside.ensures.value)
    (fed_reported g.K.Keep.keep (record { limit = c.self.inside.limit; bytes = c.self.inside.history.bytes; failed = c.self.inside.failed })
    c.args.piece.now
    (c.self.inside.count + c.min-within.result) c.take.new.self c.match-take.judged c.in_default.is (judged g c))
