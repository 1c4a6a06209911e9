-- What `clap` answers to the program's command line, and what the program makes of it.
use Rattle.command_line.proofs.Common.{◌≡◌, ◌∙◌, ℕ, Bool, true, false, List, [], ◌∷◌, Option, Some, None, Result, ap, sym, subst, refl, inl, inr, not}
use Rattle.command_line.proofs.Common.{option_map, list_any, or-true, fault_of, is_simple_and_free, FailsBy, HasKind, IsAmong, Kinds, App, HasMatchesOf}
use Rattle.command_line.proofs.Common.{is_simple, subcommand_of, subcommand_rows_of, Row, Error, ErrorKind, ArgMatches, IsAnswerTo, PlainRequest}
use Rattle.command_line.proofs.Common.{IsNoRequestOf, if_taken, is_no_memory, is_shown, request_of, requested_in, requested_of, cats, NoRequest, Help}
use Rattle.command_line.proofs.Common.{WrongUsage, Misused, NoMemory}
use Rattle.clap.proofs.OnLiterals.{clap_on_literals}

-- ---- the command is one of which `clap` says all

is_plain : is_simple_and_free cats ≡ true
unfolding clap_on_literals
is_plain = refl

is_without_settings : is_simple cats ≡ true
unfolding clap_on_literals
is_without_settings = refl

module _ (app : App) (is : app ≡ cats) (words : List (List ℕ)) where
  -- a line that is refused has a fault, and one that is taken has none
  pub fails_by : (answer : Result ArgMatches Error) → (is_simple_and_free app ≡ true → FailsBy (fault_of app words) answer)
      → FailsBy (fault_of cats words) answer
  fails_by answer fails = subst (λ (a : App). FailsBy (fault_of a words) answer) is (fails (ap is_simple_and_free is ∙ is_plain))

  -- its subcommand is that of the words
  pub entered : (m : ArgMatches) → HasMatchesOf app words m → (name : List ℕ) (rows : List Row)
      → option_map (λ p. p.0) (subcommand_rows_of m) ≡ Some name → option_map (λ p. p.1) (subcommand_rows_of m) ≡ Some rows
      → subcommand_of cats words ≡ Some (name, rows)
  entered m has name rows named given =
      sym ((has (ap is_simple is ∙ is_without_settings)).1 ∙ ap (λ a. subcommand_of a words) is) ∙ both (subcommand_rows_of m) named given
    where
      both : (met : Option (List ℕ × List Row)) → option_map (λ p. p.0) met ≡ Some name → option_map (λ p. p.1) met ≡ Some rows → met ≡ Some (name, rows)
      both None named given = cc
      both (Some (n, r)) named given = cc

  pub requested : (name : List ℕ) (rows : List Row) → subcommand_of cats words ≡ Some (name, rows) → requested_in name rows ≡ requested_of words
  requested name rows met = rw met refl

-- ---- why a line requests nothing

among_shown : (kind : ErrorKind) (kinds : Kinds) (test : ErrorKind → Bool) → test kind ≡ true → IsAmong kind kinds → list_any test kinds ≡ true
among_shown kind [] test passes among = absurd among
among_shown kind (first ∷ rest) test passes (inl is) = rw (← is, passes) refl
among_shown kind (first ∷ rest) test passes (inr later) = rw (among_shown kind rest test passes later) (or-true (test first))

pub answered : (words : List (List ℕ)) (error : Error) (answer : NoRequest) → HasKind (fault_of cats words) error → IsAnswerTo error.kind answer
    → IsNoRequestOf words answer
answered words error (Help text) (inl memory) is = let no : is_shown error.kind ≡ false = rw memory refl in cc
answered words error (Help text) (inr among) is = among_shown error.kind _ is_shown is among
answered words error (WrongUsage text) (inl memory) is = absurd (is.1 memory)
answered words error (WrongUsage text) (inr among) is = among_shown error.kind _ (λ kind. not (is_shown kind)) (ap not is.0) among
answered words error (Misused misuse) kind is = absurd is
answered words error NoMemory kind is = tt

-- ---- a line with a request

no_fault : (kinds : Kinds) (found : Option PlainRequest) (request : PlainRequest) → if_taken kinds found ≡ Some request → kinds ≡ []
no_fault [] found request asked = refl
no_fault (kind ∷ kinds) found request asked = cc

pub only_memory : (words : List (List ℕ)) (request : PlainRequest) (answer : NoRequest) → request_of words ≡ Some request → IsNoRequestOf words answer
    → is_no_memory answer ≡ true
only_memory words request (Help text) asked is =
    let none : fault_of cats words ≡ [] = no_fault _ _ request asked in
    let some : false ≡ true = rw none at is in
    cc
only_memory words request (WrongUsage text) asked is =
    let none : fault_of cats words ≡ [] = no_fault _ _ request asked in
    let some : false ≡ true = rw none at is in
    cc
only_memory words request (Misused misuse) asked is = let none : None ≡ Some request = rw (is.0, is.1) at asked in cc
only_memory words request NoMemory asked is = refl
