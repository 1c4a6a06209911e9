-- `send_bids`
use Rattle.cats_text.proofs.Common.{◌≡◌, ◌+◌, ◌*◌, ◌++◌, ◌≤◌, length, take, drop, false, vec_capacity, Appends, bids_text, layout, LONGEST_LINE, PAGE, inner_of}
use Rattle.cats_text.proofs.Common.{has_failed, has_ended}
use Rattle.cats_text.proofs.sending.send_bids.Given as goal

abbrev pub invariant-loop-number : goal.invariant-loop-number
invariant-loop-number g l = let file = g.B.Bids.file l.file in record {
  working : has_failed l.out ≡ false;
  ended : has_ended l.out ≡ has_ended l.fn.out;
  within : l.written ≤ length (layout file);
  sent : Appends (g.W.Write.contents (inner_of l.fn.out)) (g.W.Write.contents (inner_of l.out)) (take l.written (layout file));
  left : l.page.items ++ bids_text file.goods l.number (drop l.number file.bids) ≡ drop l.written (layout file);
  space : PAGE ≤ vec_capacity l.page;
  counted : l.written + length l.page.items ≤ 128 + LONGEST_LINE * l.number;
}
