-- `RoundedReader::pass_on`
use Rattle.cats_cmd.proofs.RoundedReaders.{feeding_refused}
use Rattle.cats_cmd.proofs.rounded_reader.RoundedReader.pass_on.Goals as goal

pub returns-in-Err : goal.returns-in-Err
returns-in-Err g c =
    rw c.refusal_of_reader.ensures
    (feeding_refused c.args.self.now.reader c.feed.new.self c.args.self.now.rounded.text.items c.in-Err.fault c.requires
    (rw c.as_slice.ensures.value at c.in-Err.ensures))
