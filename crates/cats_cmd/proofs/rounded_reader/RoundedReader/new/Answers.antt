-- `RoundedReader::new`
use Rattle.cats_cmd.proofs.Common.{refl}
use Rattle.cats_cmd.proofs.RoundedReaders.{nothing_taken}
use Rattle.cats_cmd.proofs.rounded_reader.RoundedReader.new.Goals as goal

pub returns : goal.returns
returns g c = nothing_taken c.args.rule _ _ c.new.ensures.holds c.new-2.ensures refl c.new.ensures.text c.new.ensures.prices
