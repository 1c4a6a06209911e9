-- `finish_packed`
use Rattle.cats_text.proofs.Feeding.Files.{parts_reported}
use Rattle.cats_text.proofs.push_reader.finish_packed.Goals as goal

pub new-requires : goal.new-requires
new-requires c = (parts_reported (λ kept. kept) c.args.push_reader (c.in_ok-header.header, c.in_ok-header.bids) c.in_ok-header.ensures).0

pub returns : goal.returns
returns c = rw c.new.ensures
    (parts_reported (λ kept. kept) c.args.push_reader (c.in_ok-header.header, c.in_ok-header.bids) c.in_ok-header.ensures).1
