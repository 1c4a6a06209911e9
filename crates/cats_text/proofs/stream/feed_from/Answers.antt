-- `feed_from`: the bytes that came are those that were fed.
use Rattle.cats_text.proofs.Common.{rules, arith, ◌≡◌, ◌<◌, ◌++◌, ℕ, Bool, true, List, [], ◌∷◌, ◌||◌, length, take, ◌∙◌, append-nil, Ok, Option, length-append}
use Rattle.cats_text.proofs.Common.{common_steps, ◌≢◌, err_from_is_err_and, Consumes-trans, Consumes-kept, Consumes, moved_nothing}
use Rattle.cats_text.proofs.Texts.FaultKinds.{fed_within}
use Rattle.cats_text.proofs.Feeding.Streams.{fed_reported}
use Rattle.cats_text.proofs.stream.feed_from.Goals as goal

-- a read that gave nothing
no_more : (a b c : Option (List ℕ)) (bytes piece : List ℕ) (n : ℕ) → n ≡ 0 → Consumes a b bytes → Consumes b c (take n piece) → Consumes a c bytes
no_more a b c bytes piece n none came gave = search (rules, Consumes-trans, append-nil)

at_the_end : (before : Bool) (n : ℕ) (piece : List ℕ) → n ≡ 0 → 0 < length piece → (before || moved_nothing (Ok n) piece) ≡ true
at_the_end before n [] none space = absurd (omega arith)
at_the_end before n (byte ∷ piece) none space = grind arith

pub returns-in-Ok-eq0 : goal.returns-in-Ok-eq0
returns-in-Ok-eq0 g c = search (rules, no_more, at_the_end)

-- a read that gave a piece
came_more : (a b c : Option (List ℕ)) (bytes piece all : List ℕ) → Consumes a b bytes → Consumes b c piece → all ≡ bytes ++ piece → Consumes a c all
came_more a b c bytes piece all came gave joined = rw joined (Consumes-trans a b c bytes piece came gave)

-- some bytes came, so there are more
more_bytes : (bytes piece all : List ℕ) (n : ℕ) → n ≢ 0 → n ≡ length piece → all ≡ bytes ++ piece → length bytes < length all
more_bytes bytes piece all n some count joined = rw (joined, length-append bytes piece) (omega arith)

pub loop-count-smaller : goal.loop-count-smaller
loop-count-smaller g c = grind (arith, common_steps, fed_within, more_bytes)

pub loop-count-preserved : goal.loop-count-preserved
loop-count-preserved g c =
    let kept = c.loop-count.invariant in
    let fed = rw kept.working at c.in_ok-feed-in-Ok.ensures in
    let limit = fed.limit ∙ kept.limit in
    record {
      limit = limit;
      working = fed.answer.1;
      no_fault = rw limit at fed.answer.0;
      came = came_more _ _ _ c.loop-count.push_reader.bytes _ c.feed.new.self.bytes kept.came c.in-Ok.ensures.bytes.0 fed.bytes;
      device = c.in-Ok.ensures.failed;
      space = rw c.read.auto.piece kept.space;
    }

pub returns-in_err-feed-in-Ok : goal.returns-in_err-feed-in-Ok
returns-in_err-feed-in-Ok g c =
    let kept = c.loop-count.invariant in
    let fed = rw kept.working at c.in_err-feed-in-Ok.ensures in
    let reported = err_from_is_err_and c.from_residual.result c.from_residual.ensures.1 in
    let limit = fed.limit ∙ kept.limit in
    record {
      bytes = came_more _ _ _ c.loop-count.push_reader.bytes _ c.feed.new.self.bytes kept.came c.in-Ok.ensures.bytes.0 fed.bytes;
      answer = rw (reported.1, reported.2)
          (fed_reported g.R.Read.remaining c.feed.new.self.bytes c.read.new.self c.in_err-feed-in-Ok.field-0.0 c.in-Ok.ensures.failed
          (rw limit at fed.answer.0));
    }

pub returns-in-Err : goal.returns-in-Err
returns-in-Err g c = search (rules, Consumes-kept)
