-- `RoundedReader::take`
use Rattle.cats_cmd.proofs.Common.{refl, ap, not, ◌∙◌}
use Rattle.cats_cmd.proofs.RoundedReaders.{none_if, piece_passed, piece_taken, some_if}
use Rattle.cats_cmd.proofs.rounded_reader.RoundedReader.take.Goals as goal

pub feed-requires : goal.feed-requires
feed-requires g c = c.requires (none_if c.args.self.now.fault (c.is_none.ensures ∙ ap not c.if-is_none.true))

pub returns-then-is_none : goal.returns-then-is_none
returns-then-is_none g c = λ rule bytes has.
    piece_taken rule bytes c.args.self.now c.feed.new.self _ c.args.piece.now c.feed.result
    (none_if c.args.self.now.fault (c.is_none.ensures ∙ ap not c.if-is_none.true)) has refl refl refl c.err-self.ensures.value c.feed.ensures

pub returns-else-is_none : goal.returns-else-is_none
returns-else-is_none g c = λ rule bytes has.
    piece_passed rule bytes c.args.self.now c.args.piece.now (some_if c.args.self.now.fault (c.is_none.ensures ∙ ap not c.if-is_none.false)) has
