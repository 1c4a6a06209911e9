-- A run sends what its command answers: by the command's contract, what was sent is what the run promises.
use Rattle.cats_cmd.proofs.Common.{◌≡◌, ◌≤◌, ℕ, Bool, List, Option, Result, Ok, Err, true, refl, inr, PlainFile, ReadFault, SendFault, Watched, Memory, Which}
use Rattle.cats_cmd.proofs.Common.{Only, Both, RunFault, Refused, Sent, Commands, CommandsIfMet, text_of, Outcome, Prints, diff_outcome, naming_outcome}
use Rattle.cats_cmd.proofs.Common.{normalise_outcome}
use Rattle.cats_cmd.proofs.Common.{CommandsBoth, CommandsBy, GivesBoth, outcome_of_both, first_difference, auction_from, SearchOptions, Answer, Task}
use Rattle.cats_cmd.proofs.Common.{RunsCommand, RunsOnFile, SendsAnswer, SendsAs, SendsMadeAs, WritesText}
use Rattle.cats_cmd.proofs.AnswersShown.{difference_printed, differences_printed, is_printed, printed}
use Rattle.cats_cmd.proofs.ShownTexts.{Shown}
use Rattle.requests.specs.declared.task.Task.TheVariants.{Compare}

-- the status that was answered is that of the text
pub wrote : {A W : Type 0} (contents : W → Option (List ℕ)) (Reads : A → Type 0) (outcome : A → Outcome) (old new : Watched W) (given : A) → Reads given
    → (status : ℕ) (text : List ℕ) → outcome given ≡ Prints status text
    → (reported : ℕ) → SendsAs contents status text old new (Ok reported) → WritesText contents Reads outcome old new reported
wrote contents Reads outcome old new given reads status text is reported sends =
    rw sends.0 (record { given = given; reads = reads; text = text; made = is; sent = sends.1 })

-- ---- a run of a command

module _ {W : Type 0} (contents : W → Option (List ℕ)) (Answers : Result Answer RunFault → Type 0) (whose : Which)
    (unsent : (fault : SendFault) → Answers (Err (Sent fault)) → ⊥) (memory : (answer : Answer) → Answers (Ok answer) → Answers (Err (Refused whose Memory)))
    (old new : Watched W) where
  text_sent : (answer : Answer) → Answers (Ok answer) → (result : Result ℕ RunFault)
      → SendsMadeAs contents whose answer.status (text_of answer.output) old new result → RunsCommand contents Answers old new result
  text_sent answer given (Ok status) sends = record { answer = answer; answers = given; is_status = sends.0; sent = sends.1 }
  text_sent answer given (Err (Refused which fault)) sends = (rw (sends.0, sends.1) (memory answer given), sends.2)
  text_sent answer given (Err (Sent fault)) sends = record { answer = answer; answers = given; sent = sends }
  text_sent answer given (Err fault) sends = absurd sends

  nothing_sent : (fault : RunFault) → Answers (Err fault) → new ≡ old → RunsCommand contents Answers old new (Err fault)
  nothing_sent (Sent fault) given silent = absurd (unsent fault given)
  nothing_sent fault given silent = (given, silent)

  command_run : (answer : Result Answer RunFault) → Answers answer → (result : Result ℕ RunFault) → SendsAnswer contents whose answer old new result
      → RunsCommand contents Answers old new result
  command_run (Ok answer) given result sends = text_sent answer given result sends
  command_run (Err fault) given result sends = rw sends.0 (nothing_sent fault given sends.1)

pub file_run_if_met : {I W : Type 0} (gives : I → I → PlainFile → Type 0) (refuses : I → I → ReadFault → Type 0) (contents : W → Option (List ℕ))
    (outcome : Bool → PlainFile → Outcome) (before after : I) (old new : Watched W) (answer : Result Answer RunFault)
    → CommandsIfMet gives refuses outcome before after answer → (result : Result ℕ RunFault) → SendsAnswer contents Only answer old new result
    → RunsCommand contents (CommandsIfMet gives refuses outcome before after) old new result
file_run_if_met gives refuses contents outcome before after old new answer given result sends =
    command_run contents (CommandsIfMet gives refuses outcome before after) Only (λ fault none. none)
    (λ a made. (refl, inr (record { file = made.file; given = made.given }))) old new answer given result sends

pub file_run : {I W : Type 0} (gives : I → I → PlainFile → Type 0) (refuses : I → I → ReadFault → Type 0) (contents : W → Option (List ℕ))
    (outcome : PlainFile → Outcome) (before after : I) (old new : Watched W) (answer : Result Answer RunFault)
    → Commands gives refuses outcome before after answer → (result : Result ℕ RunFault) → SendsAnswer contents Only answer old new result
    → RunsOnFile gives refuses contents outcome before after old new result
file_run gives refuses contents outcome = file_run_if_met gives refuses contents (λ met. outcome)

module _ {I J : Type 0} (gives_first : I → I → PlainFile → Type 0) (refuses_first : I → I → ReadFault → Type 0)
    (gives_second : J → J → PlainFile → Type 0) (refuses_second : J → J → ReadFault → Type 0) (first first_after : I) (second second_after : J) where
  -- both files were given, and what is printed of them can be shown, with the status 0 or 1
  pub record MadeOfBoth (answer : Answer) : Type 0 where
    pub options : SearchOptions
    pub files : PlainFile × PlainFile
    pub given : GivesBoth gives_first refuses_first gives_second refuses_second options first first_after second second_after files
    pub printed : (answer.status ≤ 1) × Shown (text_of answer.output)

  -- what holds of the contract of each command: it answers no fault of the output, and memory may be refused to what is made of both files
  pub record PairFacts (Answers : Result Answer RunFault → Type 0) : Type 0 where
    pub unsent : (fault : SendFault) → Answers (Err (Sent fault)) → ⊥
    pub memory : (answer : Answer) → Answers (Ok answer) → Answers (Err (Refused Both Memory))
    pub made : (answer : Answer) → Answers (Ok answer) → MadeOfBoth answer

  both_made : {A : Type 0} (options : SearchOptions) (refusal : PlainFile → Outcome) (Gives : A → Type 0) (outcome : A → Outcome)
      (files : A → PlainFile × PlainFile)
      → ((a : A) → Gives a → GivesBoth gives_first refuses_first gives_second refuses_second options first first_after second second_after (files a))
      → ((a : A) → is_printed (outcome a) ≡ true)
      → PairFacts (CommandsBoth gives_first refuses_first gives_second refuses_second options refusal Gives outcome first first_after second second_after)
  both_made options refusal Gives outcome files given are_printed = record {
    unsent = λ fault none. none;
    memory = λ answer made. record { files = files made.given; given = given made.given made.gives; memory = refl };
    made = λ answer made. record {
      options = options;
      files = files made.given;
      given = given made.given made.gives;
      printed = printed (outcome made.given) answer.status (text_of answer.output) (are_printed made.given) made.made;
    };
  }

  abbrev Answers : Task → SearchOptions → Result Answer RunFault → Type 0
  Answers task options answer = CommandsBy gives_first refuses_first gives_second refuses_second task options first first_after second second_after answer

  pub pair_facts : (task : Task) (options : SearchOptions) → PairFacts (Answers task options)
  pair_facts Compare options = both_made options (normalise_outcome options) _ outcome_of_both (λ files. files) (λ files given. given)
      (λ files. difference_printed (first_difference (auction_from files.0) (auction_from files.1)))
  pair_facts task options = both_made options (naming_outcome options) _ diff_outcome (λ compared. (compared.0, compared.1))
      (λ compared given. given.given) (λ compared. differences_printed compared.0 compared.1 compared.2)

  pub pair_run : {W : Type 0} (contents : W → Option (List ℕ)) (task : Task) (options : SearchOptions) (old new : Watched W)
      (answer : Result Answer RunFault) → Answers task options answer → (result : Result ℕ RunFault) → SendsAnswer contents Both answer old new result
      → RunsCommand contents (Answers task options) old new result
  pair_run contents task options old new answer given result sends =
      let facts = pair_facts task options in command_run contents (Answers task options) Both facts.unsent facts.memory old new answer given result sends
