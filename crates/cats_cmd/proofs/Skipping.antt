-- A file that was not read adds nothing to the groups of `cats duplicates`.
use Rattle.cats_cmd.proofs.Common.{ℕ, List, [], ◌∷◌, ◌++◌, refl, found_paths, files_if_heavy, files_if_judged, paths_if_heavy, paths_if_judged, canonical_text}
use Rattle.cats_cmd.proofs.Common.{AreSameFiles, AreAlike, unsearched_text, KeepsGroups, Judgement, IsUnjudged, Groups, RunFault}
use Rattle.cats_cmd.proofs.FindingNumbers.{judgement_skipped}

pub groups_skip : (groups : Groups) (js : List (List ℕ × Judgement)) (path : List ℕ) (fault : RunFault)
    → KeepsGroups groups js → KeepsGroups groups (js ++ (path, IsUnjudged fault) ∷ [])
groups_skip groups js path fault h = record {
  judged = judgement_skipped canonical_text AreSameFiles files_if_judged paths_if_judged js path (IsUnjudged fault) groups.judged.index
      (found_paths groups.judged.found.items) refl refl h.judged;
  heavy = judgement_skipped unsearched_text AreAlike files_if_heavy paths_if_heavy js path (IsUnjudged fault) groups.heavy.index
      (found_paths groups.heavy.found.items) refl refl h.heavy;
}
