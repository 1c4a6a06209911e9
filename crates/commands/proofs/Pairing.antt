-- What is made of two files that were given: an answer, or memory is refused for it.
use Rattle.commands.proofs.Common.{rules, ◌≡◌, Result, Ok, Err, sym, ap, ap₂, ◌∙◌, subst, IfOk, IfErr, IfOk-weaker, PlainFile, IsPlainFile, ReadFault}
use Rattle.commands.proofs.Common.{SearchOptions, difference_of_same_files, same_sym, canonical_file_is_same, IsPlainFile-canonical, canonical_file}
use Rattle.commands.proofs.Common.{CanonFault, Memory, Which, First, Second, Both, PrintsDifferences, RunFault, ComparedFile, GivesWithin, ReadsCanonical}
use Rattle.commands.proofs.Common.{text_of, of_file, Outcome, Prints, compare_outcome, diff_outcome, naming_outcome, normalise_outcome, outcome_of_difference}
use Rattle.commands.proofs.Common.{CommandsBoth, Compares, Diffs, GivesBoth, MakesOfBoth, outcome_of_both, Answer, ℕ, List}

-- what was given, if there is no fault
given_of : {T : Type 0} (P : Result T CanonFault → Type 0) (which : Which) (answer : Result T CanonFault) (given : T)
    → P answer → Ok given ≡ of_file which answer → P (Ok given)
given_of {T} P which (Ok other) given holds is = let same : other ≡ given = cc in subst (λ (x : T). P (Ok x)) same holds
given_of P which (Err fault) given holds is = absurd cc

-- the canonical files have the first difference of the files
canonical_outcome : (f g : PlainFile) → IsPlainFile f → IsPlainFile g → compare_outcome (canonical_file f) (canonical_file g) ≡ compare_outcome f g
canonical_outcome f g h k =
    ap outcome_of_difference (difference_of_same_files (canonical_file f) f (canonical_file g) g (IsPlainFile-canonical f h) h (IsPlainFile-canonical g k) k
    (same_sym _ _ (canonical_file_is_same f h)) (same_sym _ _ (canonical_file_is_same g k)))

module _ {I J : Type 0} (gives_first : I → I → PlainFile → Type 0) (refuses_first : I → I → ReadFault → Type 0)
    (gives_second : J → J → PlainFile → Type 0) (refuses_second : J → J → ReadFault → Type 0)
    (options : SearchOptions)
    (first first_after : I) (second second_after : J) where
  made_of_both : {A : Type 0} (refusal : PlainFile → Outcome) (Gives : A → Type 0) (outcome : A → Outcome) (files : PlainFile × PlainFile)
      → GivesBoth gives_first refuses_first gives_second refuses_second options first first_after second second_after files
      → (answer : Result Answer CanonFault)
      → IfOk answer (λ a. MakesOfBoth gives_first refuses_first gives_second refuses_second options Gives outcome (Prints a.status (text_of a.output)))
      → IfErr answer (λ fault. fault ≡ Memory)
      → CommandsBoth gives_first refuses_first gives_second refuses_second options refusal Gives outcome first first_after second second_after
      (of_file Both answer)
  made_of_both refusal Gives outcome files given (Ok answer) made memory = made
  made_of_both refusal Gives outcome files given (Err fault) made memory = search rules

  -- the canonical files were compared
  pub files_compared : (left right : PlainFile) (read_left read_right : Result PlainFile CanonFault)
      → ReadsCanonical gives_first refuses_first options first first_after read_left → Ok left ≡ of_file First read_left
      → ReadsCanonical gives_second refuses_second options second second_after read_right → Ok right ≡ of_file Second read_right
      → (answer : Result Answer CanonFault) → IfOk answer (λ a. compare_outcome left right ≡ Prints a.status (text_of a.output))
      → IfErr answer (λ fault. fault ≡ Memory) → (told : Result Answer RunFault) → told ≡ of_file Both answer
      → Compares gives_first refuses_first gives_second refuses_second options first first_after second second_after told
  files_compared left right read_left read_right reads_left is_left reads_right is_right answer made memory told is =
      let one = given_of (ReadsCanonical gives_first refuses_first options first first_after) First read_left left reads_left is_left in
      let other = given_of (ReadsCanonical gives_second refuses_second options second second_after) Second read_right right reads_right is_right in
      let same : compare_outcome one.file other.file ≡ compare_outcome left right =
      sym (canonical_outcome one.file other.file one.plain other.plain) ∙ ap₂ compare_outcome (sym one.is) (sym other.is) in
      rw is (made_of_both (normalise_outcome options) _ outcome_of_both (one.file, other.file) (one.given, other.given) answer
      (IfOk-weaker answer _ _ (λ a h. record { given = (one.file, other.file); gives = (one.given, other.given); made = same ∙ h }) made) memory)

  -- all differences of the canonical files were found
  pub files_differed : (left right : ComparedFile) → GivesWithin gives_first refuses_first options first first_after left.file
      → GivesWithin gives_second refuses_second options second second_after right.file
      → (answer : Result Answer CanonFault) → IfOk answer (λ a. PrintsDifferences left.file right.file a.status (text_of a.output))
      → IfErr answer (λ fault. fault ≡ Memory) → (told : Result Answer RunFault) → told ≡ of_file Both answer
      → Diffs gives_first refuses_first gives_second refuses_second options first first_after second second_after told
  files_differed left right one other answer made memory told is =
      rw is (made_of_both (naming_outcome options) _ diff_outcome (left.file, right.file) (one, other) answer
      (IfOk-weaker answer _ _ (λ a h. record {
        given = (left.file, right.file, h.differences);
        gives = record { given = (one, other); all = h.all };
        made = ap₂ (λ (n : ℕ) (xs : List ℕ). Prints n xs) (sym h.is_status) (sym h.is_text);
      }) made) memory)
