-- `text_of`
use Rattle.commands.proofs.Common.{◌≡◌, take, text_of_pieces}
use Rattle.commands.proofs.printed.pieces.text_of.Given as goal

abbrev pub invariant-loop-piece : goal.invariant-loop-piece
invariant-loop-piece l = l.text.items ≡ text_of_pieces (take l.piece-index l.pieces)
