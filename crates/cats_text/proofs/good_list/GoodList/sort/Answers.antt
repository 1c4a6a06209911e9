-- `GoodList::sort`: goods that do not rise are sorted: the marks stay theirs.
use Rattle.cats_text.proofs.Common.{rules, ◌≡◌, true, both_ways, list_any-IsPermutation, IsNonDecreasingBy-from_sort, IsRising, IsMarked}
use Rattle.cats_text.proofs.Spelling.Distinct.{rising_from_sort}
use Rattle.cats_text.proofs.Spelling.Marks.{IsMarked-sorted}
use Rattle.cats_text.proofs.good_list.GoodList.sort.Goals as goal

pub invariant_of-self : goal.invariant_of-self
invariant_of-self c =
    let marked : IsMarked c.self.inside.goods.items c.self.inside.marks.items c.self.inside.bid_mark = rw c.if-not-self.true at c.self.invariant.marked in
    let rising : IsRising c.sort_unstable.new.self.items = search (rules, rising_from_sort, IsNonDecreasingBy-from_sort) in
    record {
      marked = rw c.if-not-self.true (IsMarked-sorted _ _ _ _ marked c.sort_unstable.ensures.permutation rising);
      rising = λ _. rising;
      above = λ (r : c.self.inside.rises ≡ true). absurd (both_ways c.self.inside.rises c.if-not-self.true r);
      none = c.self.invariant.none;
    }

pub returns-then-not-self-clause-rising : goal.returns-then-not-self-clause-rising
returns-then-not-self-clause-rising c =
    let marked : IsMarked c.self.inside.goods.items c.self.inside.marks.items c.self.inside.bid_mark = rw c.if-not-self.true at c.self.invariant.marked in
    search (rules, rising_from_sort, IsNonDecreasingBy-from_sort)

pub returns-then-not-self-clause-same : goal.returns-then-not-self-clause-same
returns-then-not-self-clause-same c = search (rules, list_any-IsPermutation)
