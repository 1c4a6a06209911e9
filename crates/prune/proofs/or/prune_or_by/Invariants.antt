-- `prune_or_by`: from the next one on the best bids are as they were; what is kept of those before it, the prefix, is as it should be;
-- what is left of the limits decides on those from it on; and what was noted is what becomes of those before it, by the prefix.
use Rattle.prune.proofs.Common.{◌≡◌, ◌≤◌, true, map, drop, take, atoms_of, or_fate, plain_fate, IsFinderOf, or_is_value}
use Rattle.prune.proofs.Prefixes.{IsLeft}
use Rattle.prune.proofs.Refusals.{IsWithin}
use Rattle.prune.proofs.Pruning.{IsKept}
use Rattle.prune.proofs.or.prune_or_by.Given as goal

abbrev pub invariant-loop-next : goal.invariant-loop-next
invariant-loop-next g l =
    let goods = g.S.GoodsSet.goods in
    let done = atoms_of goods (take l.next l.initial.atoms.items) in
    let rest = atoms_of goods (drop l.next l.initial.atoms.items) in
    let prefix = atoms_of goods (take l.kept l.atoms.items) in
    record {
      left : IsLeft l.initial.atoms.items l.atoms.items l.next;
      finder : IsFinderOf prefix l.finder;
      kept : IsKept or_is_value done prefix;
      within : IsWithin l.fn.options l.finder.search.options (atoms_of goods l.fn.atoms.items) rest;
      fewer : l.kept ≤ l.next;
      wanted : l.log.wanted ≡ l.fn.log.wanted;
      noted : l.fn.log.wanted ≡ true → map plain_fate l.log.fates.items ≡ map (or_fate l.fn.options.kind prefix) done;
    }
