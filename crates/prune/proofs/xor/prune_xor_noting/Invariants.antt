-- `prune_xor_noting`: from the next one on the best bids are as they were; what is kept of those before it, the prefix, is as it should be;
-- and what was noted is what becomes of them, by the prefix.
use Rattle.prune.proofs.Common.{◌≡◌, ◌≤◌, true, map, take, IfSome, atoms_of, xor_fate, IsIndexOf, xor_is_value}
use Rattle.prune.proofs.Prefixes.{IsLeft}
use Rattle.prune.proofs.Pruning.{IsKept}
use Rattle.prune.proofs.xor.prune_xor_noting.Given as goal

abbrev pub invariant-loop-next : goal.invariant-loop-next
invariant-loop-next g l =
    let goods = g.S.GoodsSet.goods in
    let done = atoms_of goods (take l.next l.initial.atoms.items) in
    let prefix = atoms_of goods (take l.kept l.atoms.items) in
    record {
      left : IsLeft l.initial.atoms.items l.atoms.items l.next;
      index : IfSome l.index (IsIndexOf prefix);
      kept : IsKept xor_is_value done prefix;
      fewer : l.kept ≤ l.next;
      wanted : l.log.wanted ≡ l.fn.log.wanted;
      noted : l.fn.log.wanted ≡ true → l.log.fates.items ≡ map (xor_fate prefix) done;
    }
