-- `Parser::put_bid`: what is kept of the bid is at its number, and its goods are gone.
use Rattle.cats_text.proofs.Common.{rules}
use Rattle.cats_text.proofs.parser.Parser.put_bid.Goals as goal

pub returns : goal.returns
returns g c = search rules
