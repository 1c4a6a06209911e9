-- `files_published`
use Rattle.cats_cmd.proofs.Common.{◌≡◌, ◌∙◌, ◌∷◌, [], PlainFile, Bool, cond, ◌+◌, ℕ, Option, refl, sym, Some, None, true, false, canonical_text, ap}
use Rattle.cats_cmd.proofs.Common.{codes}
use Rattle.cats_cmd.proofs.PublishingFiles.{line_as, row_is}
use Rattle.cats_cmd.specs.Examples.{one_before, two_places}
use Rattle.cats_cmd.specs.PricedInputs.{counted}
use Rattle.cats_cmd.specs.Publishing.{is_wanted, same_as}
use Rattle.canon.specs.FirstNumbers.{first_number}
use Rattle.std.specs.Prelude.{bytes_eq, is_none, nat_lt, not, option_and_then, slice_get}
use Rattle.std.specs.Fmt.{digits}
use Rattle.std.specs.Char.{encode_utf8}
use Rattle.std.proofs.lemmas.Slice.Eq.{bytes_eq-Decides}
use Rattle.commands.specs.declared.faults.Unwritten.TheVariants.{NoSpace}
use Rattle.cats_cmd.proofs.worked.files_published.Goals as goal

-- one file is the first that is the same auction as itself
first_of_one : (file : PlainFile) → first_number (file ∷ []) file ≡ Some 0
first_of_one file = found (bytes_eq (canonical_text file) (canonical_text file)) ((bytes_eq-Decides (canonical_text file) (canonical_text file)).1 refl)
  where
    found : (b : Bool) → b ≡ true → cond (nat_lt (cond (not b) (1 + 0) 0) 1) (Some (cond (not b) (1 + 0) 0)) None ≡ Some 0
    found true is = refl
    found false is = cc

same_path : (file : PlainFile) → same_as (one_before file) file ≡ Some (codes "x/a")
same_path file = ap (λ (n : Option ℕ). option_and_then (slice_get (codes "x/a" ∷ [])) n) (first_of_one file)

not_wanted : (file : PlainFile) → is_wanted (codes "out") false two_places (one_before file) file ≡ false
not_wanted file = ap (λ (n : Option ℕ). is_none n) (first_of_one file)

pub returns-clause-first : goal.returns-clause-first
unfolding digits encode_utf8
returns-clause-first c file h =
    sym (row_is (codes "out") false two_places [] (codes "x/a") file (counted 0 0) None true None 1 0 refl refl (sym h.kept_are) refl)
    ∙ (let line : line_as (codes "out") false two_places [] (codes "x/a") file (counted 0 0) None true None 1 0 ≡ codes "x/a\ta\t\t2\t3\t1\t0\t0\t\n" =
    rw (h.goods_are, h.bids_are) refl in line)

pub returns-clause-unwritten : goal.returns-clause-unwritten
unfolding digits encode_utf8
returns-clause-unwritten c file h =
    sym (row_is (codes "out") false two_places [] (codes "x/a") file (counted 0 0) (Some NoSpace) true None 1 0 refl refl (sym h.kept_are) refl)
    ∙ (let line : line_as (codes "out") false two_places [] (codes "x/a") file (counted 0 0) (Some NoSpace) true None 1 0
    ≡ codes "x/a\t\t\t2\t3\t1\t0\t0\tcannot write: no space\n" = rw (h.goods_are, h.bids_are) refl in line)

pub returns-clause-same : goal.returns-clause-same
unfolding digits encode_utf8
returns-clause-same c file h =
    sym (row_is (codes "out") false two_places (one_before file) (codes "x\nb") file (counted 5 4) None false (Some (codes "x/a")) 1 1 (not_wanted file)
    (same_path file) (sym h.kept_are) refl)
    ∙ (let line : line_as (codes "out") false two_places (one_before file) (codes "x\nb") file (counted 5 4) None false (Some (codes "x/a")) 1 1
    ≡ codes "x\\nb\t\tx/a\t2\t3\t1\t5\t4\t\n" = rw (h.goods_are, h.bids_are) refl in line)

pub returns-clause-all : goal.returns-clause-all
unfolding digits encode_utf8
returns-clause-all c file h =
    sym (row_is (codes "out") true two_places (one_before file) (codes "x/b") file (counted 5 4) None true (Some (codes "x/a")) 1 1 refl
    (same_path file) (sym h.kept_are) refl)
    ∙ (let line : line_as (codes "out") true two_places (one_before file) (codes "x/b") file (counted 5 4) None true (Some (codes "x/a")) 1 1
    ≡ codes "x/b\tb\tx/a\t2\t3\t1\t5\t4\t\n" = rw (h.goods_are, h.bids_are) refl in line)

pub returns-clause-unwanted : goal.returns-clause-unwanted
returns-clause-unwanted c file = rw (first_of_one file) refl

pub returns-clause-no_reason : goal.returns-clause-no_reason
returns-clause-no_reason c file h = let e : Some NoSpace ≡ None = h (not_wanted file) in cc

pub returns-clause-heavy : goal.returns-clause-heavy
unfolding digits encode_utf8
returns-clause-heavy c = λ goods are. rw are refl
