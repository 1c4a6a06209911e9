-- `GroupsCollection::end`
use Rattle.cats_cmd.proofs.Common.{AreSameFiles, AreAlike}
use Rattle.cats_cmd.proofs.FindingNumbers.{numbers_within}
use Rattle.cats_cmd.proofs.duplicates.GroupsCollection.end.Goals as goal

pub duplicates_text-requires-clause-judged : goal.duplicates_text-requires-clause-judged
duplicates_text-requires-clause-judged c =
    rw c.as_slice-judged.ensures.value (numbers_within AreSameFiles _ c.args.self.now.judged.found.items c.requires.has.judged.finds.numbers)

pub duplicates_text-requires-clause-heavy : goal.duplicates_text-requires-clause-heavy
duplicates_text-requires-clause-heavy c =
    rw c.as_slice-heavy.ensures.value (numbers_within AreAlike _ c.args.self.now.heavy.found.items c.requires.has.heavy.finds.numbers)
