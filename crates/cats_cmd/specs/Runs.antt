-- What a run does: it sends what a command answers.
use Rattle.std.specs.Prelude.{◌≡◌, ℕ, List, Option, Result, Ok, Err}
use Rattle.bid_file.specs.Files.{PlainFile}
use Rattle.requests.specs.Requests.{PlainRequest}
use Rattle.valuation.specs.declared.search.options.SearchOptions.{SearchOptions}
use Rattle.cats_text.specs.Streams.{SendsWhole, SendsPart}
use Rattle.cats_text.specs.declared.stream.Watched.{Watched}
use Rattle.canon.specs.declared.canon_fault.CanonFault.TheVariants.{Memory}
use Rattle.canon.specs.declared.which.Which.{Which}
use Rattle.commands.specs.Commands.{Commands, text_of}
use Rattle.cats_text.specs.declared.read_fault.ReadFault.{ReadFault}
use Rattle.commands.specs.Outcomes.{Outcome, Prints}
use Rattle.commands.specs.Pairs.{Compares as ComparesFiles, CommandsOnBoth}
use Rattle.commands.specs.declared.answer.Answer.{Answer}
use Rattle.commands.specs.declared.faults.RunFault.{RunFault}
use Rattle.commands.specs.declared.faults.RunFault.TheVariants.{Refused, Sent}

-- ---- sending a text

module _ {W : Type 0} (contents : W → Option (List ℕ)) where
  -- Sending a run's whole text, when the run then answers this status.
  abbrev pub SendsAs : ℕ → List ℕ → Watched W → Watched W → Result ℕ RunFault → Type 0
  SendsAs status text old new (Ok answer) = (answer ≡ status) × SendsWhole contents old new text
  SendsAs status text old new (Err (Sent fault)) = SendsPart contents old new text fault.written
  SendsAs status text old new (Err fault) = ⊥

  -- a text made on the way is written, or its beginning, as the writer failed
  --
  -- The run then answers this status. Want of memory comes only before the first byte, for this one of the inputs.
  abbrev pub SendsMadeAs : Which → ℕ → List ℕ → Watched W → Watched W → Result ℕ RunFault → Type 0
  SendsMadeAs whose status text old new (Err (Refused which fault)) = (which ≡ whose) × (fault ≡ Memory) × (new ≡ old)
  SendsMadeAs whose status text old new answer = SendsAs status text old new answer

  -- Sending what a command answered. If that is a fault, the run answers it too, and nothing is written.
  abbrev pub SendsAnswer : Which → Result Answer RunFault → Watched W → Watched W → Result ℕ RunFault → Type 0
  SendsAnswer whose (Ok answer) old new sent = SendsMadeAs whose answer.status (text_of answer.output) old new sent
  SendsAnswer whose (Err fault) old new sent = (sent ≡ Err fault) × (new ≡ old)

-- ---- what a run wrote, when `Reads` says what was read and `outcome` what is made of it

module _ {A W : Type 0} (contents : W → Option (List ℕ)) (Reads : A → Type 0) (outcome : A → Outcome) where
  -- a text was made, with this status, and the whole text was written
  pub record WritesText (old new : Watched W) (status : ℕ) : Type 0 where
    pub given : A
    pub reads : Reads given
    pub text : List ℕ
    pub made : outcome given ≡ Prints status text
    pub sent : SendsWhole contents old new text

  -- a text was made, and the output failed in it
  pub record FailsInText (old new : Watched W) (written : ℕ) : Type 0 where
    pub given : A
    pub reads : Reads given
    pub status : ℕ
    pub text : List ℕ
    pub made : outcome given ≡ Prints status text
    pub sent : SendsPart contents old new text written

-- ---- a run of a command, when `Answers` is the command's contract

module _ {W : Type 0} (contents : W → Option (List ℕ)) (Answers : Result Answer RunFault → Type 0) where
  -- the command answered a text, with this status, and the whole text was written
  pub record WritesAnswer (old new : Watched W) (status : ℕ) : Type 0 where
    pub answer : Answer
    pub answers : Answers (Ok answer)
    pub is_status : status ≡ answer.status
    pub sent : SendsWhole contents old new (text_of answer.output)

  -- the command answered a text, and the output failed in it
  pub record FailsInAnswer (old new : Watched W) (written : ℕ) : Type 0 where
    pub answer : Answer
    pub answers : Answers (Ok answer)
    pub sent : SendsPart contents old new (text_of answer.output) written

  -- the contract of such a run, from its output before to that after. If the command answered a fault, nothing was
  -- written
  abbrev pub RunsCommand : Watched W → Watched W → Result ℕ RunFault → Type 0
  RunsCommand old new (Ok status) = WritesAnswer old new status
  RunsCommand old new (Err (Sent fault)) = FailsInAnswer old new fault.written
  RunsCommand old new (Err fault) = Answers (Err fault) × (new ≡ old)

-- ---- a run of one file, of which `outcome` says what it makes

module _ {I W : Type 0} (gives : I → I → PlainFile → Type 0) (refuses : I → I → ReadFault → Type 0)
    (contents : W → Option (List ℕ)) (outcome : PlainFile → Outcome) where
  -- what a command on one file answers is written; after a refusal nothing is
  abbrev pub RunsOnFile : I → I → Watched W → Watched W → Result ℕ RunFault → Type 0
  RunsOnFile before after old new answer =
      RunsCommand contents (Commands gives refuses outcome before after) old new answer

-- ---- a run of two files

module _ {I J W : Type 0} (gives_first : I → I → PlainFile → Type 0) (refuses_first : I → I → ReadFault → Type 0)
    (gives_second : J → J → PlainFile → Type 0) (refuses_second : J → J → ReadFault → Type 0)
    (contents : W → Option (List ℕ)) where
  -- each run
  abbrev pub RunsOnPair : PlainRequest → I → I → J → J → Watched W → Watched W → Result ℕ RunFault → Type 0
  RunsOnPair request first first_after second second_after old new answer =
      RunsCommand contents (CommandsOnBoth gives_first refuses_first gives_second refuses_second request first
      first_after second second_after) old new answer

  -- what `compare` answers is written; after a refusal nothing is
  abbrev pub Compares : SearchOptions → I → I → J → J → Watched W → Watched W → Result ℕ RunFault → Type 0
  Compares options first first_after second second_after old new answer =
      RunsCommand contents (ComparesFiles gives_first refuses_first gives_second refuses_second options first
      first_after second second_after) old new answer
