-- `RoundedReader::feed`
use Rattle.cats_cmd.proofs.Common.{refl}
use Rattle.cats_cmd.proofs.RoundedReaders.{piece_fed}
use Rattle.cats_cmd.proofs.rounded_reader.RoundedReader.feed.Goals as goal

pub returns-in-Ok : goal.returns-in-Ok
returns-in-Ok g c =
    piece_fed c.args.self.now _ c.args.piece.now c.clear.new.self refl refl c.clear.ensures.text c.clear.ensures.prices c.in-Ok.ensures _
    c.pass_on.result c.pass_on.ensures
