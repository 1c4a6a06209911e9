-- `read_rounded`
use Rattle.cats_cmd.proofs.Common.{arith, ◌<◌, length, take, ◌++◌, ◌∙◌, inl, refl, length-append, Consumes-trans}
use Rattle.cats_cmd.proofs.ReadingBytes.{no_more, not_at_the_end, at_the_end, too_many}
use Rattle.cats_cmd.proofs.RoundedReaders.{nothing_read, sound, stream_ended}
use Rattle.cats_cmd.proofs.rounded_reader.read_rounded.Goals as goal

pub loop-reader-init : goal.loop-reader-init
loop-reader-init g c = (nothing_read g.R.Read.remaining c.args.rule c.args.input.now _ c.requires.works c.requires.fresh c.new-reader.ensures, omega arith)

pub take-requires : goal.take-requires
take-requires g c = sound c.args.rule c.loop-reader.invariant.0.bytes c.loop-reader.reader c.loop-reader.invariant.0.taken

pub finish-requires : goal.finish-requires
finish-requires g c = sound c.args.rule c.loop-reader.invariant.0.bytes c.loop-reader.reader c.loop-reader.invariant.0.taken

pub loop-reader-preserved : goal.loop-reader-preserved
loop-reader-preserved g c =
    let kept = c.loop-reader.invariant.0 in
    let piece = take c.in-Ok.count c.read.new.piece in (
      record {
        bytes = kept.bytes ++ piece;
        came = Consumes-trans _ _ _ kept.bytes piece kept.came c.in-Ok.ensures.bytes.0;
        count_is = let all = length-append kept.bytes piece in let counted = kept.count_is in let size = c.in-Ok.ensures.bound.1 in omega arith;
        within = let beyond = c.if-count-length.false in omega arith;
        works = c.in-Ok.ensures.failed;
        fresh = c.in-Ok.ensures.ended ∙ not_at_the_end _ c.in-Ok.count c.read.new.piece kept.fresh c.in-Ok.count-test.1;
        taken = c.take.ensures c.args.rule kept.bytes kept.taken;
      },
      rw c.read.auto.piece c.loop-reader.invariant.1,
    )

pub returns-in-Ok-eq0 : goal.returns-in-Ok-eq0
returns-in-Ok-eq0 g c =
    let none = c.in-Ok-eq0.field-0-test in
    let kept = c.loop-reader.invariant.0 in
    let gave = c.in-Ok-eq0.ensures in
    let not_empty : 0 < length c.read.new.piece = rw c.read.auto.piece c.loop-reader.invariant.1 in
    stream_ended g.R.Read.remaining c.args.rule c.args.input.now c.read.new.self kept.bytes c.finish.result (record {
      consumes = no_more _ _ _ kept.bytes c.read.new.piece c.in-Ok-eq0.field-0 none kept.came gave.bytes.0;
      within = let counted = kept.count_is in let few = kept.within in omega arith;
      ended = gave.ended ∙ at_the_end _ c.in-Ok-eq0.field-0 c.read.new.piece none not_empty;
      at_end = gave.bytes.1 none not_empty;
      works = gave.failed;
    }) (c.finish.ensures c.args.rule kept.bytes kept.taken)

pub returns-then-count-length : goal.returns-then-count-length
returns-then-count-length g c =
    let kept = c.loop-reader.invariant.0 in
    let counted = kept.count_is in
    let few = kept.within in
    rw c.whole.ensures
    (inl (too_many g.R.Read.remaining c.args.input.now c.loop-reader.input c.read.new.self kept.bytes _ c.in-Ok.count kept.came
    c.in-Ok.ensures.bytes.0 c.in-Ok.ensures.bound.1 (let beyond = c.if-count-length.true in omega arith)))

pub returns-in-Err : goal.returns-in-Err
returns-in-Err g c = rw c.whole-in-Err.ensures (inl (refl, c.in-Err.ensures.failed))
