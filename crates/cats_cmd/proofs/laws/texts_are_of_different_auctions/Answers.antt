-- `texts_are_of_different_auctions`
use Rattle.cats_cmd.proofs.Common.{◌≡◌, ℕ, [], ◌∷◌, Option, Some, None, refl, cond}
use Rattle.cats_cmd.proofs.PublishedRows.{is_found}
use Rattle.canon.specs.Canonical.{canonical_text}
use Rattle.canon.specs.FirstNumbers.{first_number}
use Rattle.cats_cmd.specs.Duplicates.{judged_files}
use Rattle.cats_cmd.specs.Publishing.{attempt_at}
use Rattle.std.specs.Prelude.{is_none, length}
use Rattle.cats_cmd.proofs.laws.texts_are_of_different_auctions.Goals as goal

pub returns : goal.returns
returns c folder places before file other publishing number there same = go (first_number (judged_files before) file) refl
  where
    go : (found : Option ℕ) → first_number (judged_files before) file ≡ found
        → cond (is_none found) (attempt_at folder places (length before) (canonical_text file) publishing.unwritten ∷ []) [] ≡ []
    go None none = absurd (is_found before file number other there same none)
    go (Some first) found = refl
