-- `zero_exactly_for_the_same_auction`
-- What is said of canonical files is said of the files, since each is the same auction as its canonical file.
use Rattle.commands.proofs.Common.{◌≡◌, ℕ, true, List, arith, ◌↔◌, PlainFile, IsPlainFile, auction_from, canonical_file, Difference, NoDifference}
use Rattle.commands.proofs.Common.{AreSameFiles, same_sym, same_trans, HasAtoms-file, IsPlainFile-canonical, canonical_file_is_fixed}
use Rattle.commands.proofs.Common.{canonical_file_is_same, no_difference_same, AreAllDifferences, PlainDifferences, is_none_at_all, begins_with_first}
use Rattle.commands.proofs.Common.{none_exactly_for_same, canonical_from_file, Prints, diff_outcome, outcome_of_difference}
use Rattle.commands.proofs.laws.zero_exactly_for_the_same_auction.Goals as goal

through : {A B C : Type 0} → (A ↔ B) → (B ↔ C) → (A ↔ C)
through p q = (λ a. q.0 (p.0 a), λ c. p.1 (q.1 c))

-- ---- the statuses

zero_by_first : (d : Difference) (status : ℕ) (out : List ℕ) → outcome_of_difference d ≡ Prints status out → (status ≡ 0 ↔ d ≡ NoDifference)
zero_by_first d status out made = (λ zero. grind arith, λ none. grind arith)

zero_by_all : (compared : PlainFile × PlainFile × PlainDifferences) (status : ℕ) (out : List ℕ) → diff_outcome compared ≡ Prints status out
    → (status ≡ 0 ↔ is_none_at_all compared.2 ≡ true)
zero_by_all compared status out made = (λ zero. grind arith, λ none. grind arith)

-- ---- two files

module _ (f g : PlainFile) (s : IsPlainFile f) (t : IsPlainFile g) where
  same_canonical : AreSameFiles (canonical_file f) (canonical_file g) ↔ AreSameFiles f g
  same_canonical =
      let first = canonical_file_is_same f s in
      let second = canonical_file_is_same g t in (
        λ same. same_trans _ _ _ first (same_trans _ _ _ same (same_sym _ _ second)),
        λ same. same_trans _ _ _ (same_sym _ _ first) (same_trans _ _ _ same second),
      )

  none_exactly : (d : PlainDifferences) → AreAllDifferences (auction_from (canonical_file f)) (auction_from (canonical_file g)) d
      → (is_none_at_all d ≡ true ↔ AreSameFiles (canonical_file f) (canonical_file g))
  none_exactly d all =
      let first = HasAtoms-file (canonical_file f) (IsPlainFile-canonical f s) in
      let second = HasAtoms-file (canonical_file g) (IsPlainFile-canonical g t) in
      none_exactly_for_same _ _ first second d (begins_with_first _ _ first second (canonical_from_file _ (canonical_file_is_fixed f s))
      (canonical_from_file _ (canonical_file_is_fixed g t)) d all)

pub returns : goal.returns
returns c = record {
  compare = λ left right status text s t made.
      through (zero_by_first _ status text made) (no_difference_same _ _ (HasAtoms-file left s) (HasAtoms-file right t));
  diff = λ left right differences status text s t all made.
      through (zero_by_all (left, right, differences) status text made)
      (through (none_exactly left right s t differences all) (same_canonical left right s t));
}
