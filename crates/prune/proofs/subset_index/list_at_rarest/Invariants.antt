-- `list_at_rarest`: the lists that are added are empty.
use Rattle.prune.proofs.Common.{◌≡◌, ℕ, ◌+◌, ◌-◌, vec_len, lists_of, listed_at}
use Rattle.prune.proofs.subset_index.list_at_rarest.Given as goal

abbrev pub invariant-loop-alloc : goal.invariant-loop-alloc
invariant-loop-alloc l = (k : ℕ) → listed_at (lists_of l.lists.items) k ≡ listed_at (lists_of l.fn.lists.items) k

abbrev pub decreases-loop-alloc : goal.decreases-loop-alloc
decreases-loop-alloc l = l.good + 1 - vec_len l.lists
