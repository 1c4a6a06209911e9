-- `Reader::feed`
use Rattle.cats_text.proofs.reader.Reader.feed.Goals as goal

pub returns : goal.returns
returns c = rw (← c.self.view_is) c.feed.ensures
