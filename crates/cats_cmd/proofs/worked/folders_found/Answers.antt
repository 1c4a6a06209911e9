-- `folders_found`
use Rattle.cats_cmd.proofs.Common.{◌≡◌, ◌∷◌, [], refl, All-nil, All-push, IsBelow, Less}
use Rattle.cats_cmd.proofs.Common.{codes}
use Rattle.std.specs.List.Sorted.{IsStrictlySortedBy}
use Rattle.std.specs.declared.cmp.Ordering.TheVariants.{Equal, Greater}
use Rattle.cats_cmd.proofs.worked.folders_found.Goals as goal

pub returns-clause-ordered : goal.returns-clause-ordered
unfolding IsStrictlySortedBy
returns-clause-ordered c =
    let below = IsBelow (codes "f") in
    record {
      below = All-push below (codes "f/a.b" ∷ []) (codes "f/a/b") (All-push below [] (codes "f/a.b") (All-nil below) (codes "a.b", refl)) (codes "a/b", refl);
      sorted = ((refl, tt), (tt, tt));
    }

pub returns-clause-unordered : goal.returns-clause-unordered
unfolding IsStrictlySortedBy
returns-clause-unordered c lists = let less : Greater ≡ Less = lists.sorted.0.0 in cc

pub returns-clause-twice : goal.returns-clause-twice
unfolding IsStrictlySortedBy
returns-clause-twice c lists = let less : Equal ≡ Less = lists.sorted.0.0 in cc
