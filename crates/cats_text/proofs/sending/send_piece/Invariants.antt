-- `send_piece`
use Rattle.cats_text.proofs.Common.{length, ◌-◌, ◌≡◌, ◌≤◌, take, false, Appends, inner_of, has_failed, has_ended}
use Rattle.cats_text.proofs.sending.send_piece.Given as goal

abbrev pub invariant-loop-written : goal.invariant-loop-written
invariant-loop-written g l = record {
  working : has_failed l.out ≡ false;
  ended : has_ended l.out ≡ has_ended l.fn.out;
  within : l.written ≤ length l.piece;
  sent : Appends (g.W.Write.contents (inner_of l.fn.out)) (g.W.Write.contents (inner_of l.out)) (take l.written l.piece);
}

abbrev pub decreases-loop-written : goal.decreases-loop-written
decreases-loop-written g l = length l.piece - l.written
