-- The bids of `revenue`. They are those that a request names, or those in its list.
use Rattle.std.specs.Prelude.{◌≡◌, ◌⊎◌, ℕ, List, Option, None, Some, Result, Ok, Err}
use Rattle.cats_text.specs.Faults.{fault_at}
use Rattle.cats_text.specs.declared.read_fault.Kind.TheVariants.{NotANumber as NoNumber}
use Rattle.cats_text.specs.declared.stream.Watched.{Watched}
use Rattle.canon.specs.declared.canon_fault.CanonFault.{CanonFault}
use Rattle.canon.specs.declared.canon_fault.CanonFault.TheVariants.{Read, Memory as NoMemory}
use Rattle.canon.specs.declared.which.Which.TheVariants.{Only}
use Rattle.analysis.specs.BidNumbers.{RefusesNumbers, bid_numbers, faulty_line, lines_in}
use Rattle.analysis.specs.declared.winners.bid_numbers.BidNumbersFault.{BidNumbersFault}
use Rattle.analysis.specs.declared.winners.bid_numbers.BidNumbersFault.TheVariants.{NotANumber, Memory}
use Rattle.commands.specs.declared.faults.RunFault.{RunFault}
use Rattle.commands.specs.declared.faults.RunFault.TheVariants.{Refused}
use Rattle.cats_cmd.specs.FileLists.{IsUnread, ReadsList, RefusesList}
use Rattle.commands.specs.declared.faults.Unopened.{Unopened}

-- as the fault of a bid file: a word of this line is not a number, or memory was refused
abbrev pub fault_of_numbers : BidNumbersFault → CanonFault
fault_of_numbers (NotANumber line) = Read (fault_at line NoNumber)
fault_of_numbers Memory = NoMemory

module _ {F : Type 0} (may_open : List ℕ → F → Type 0) (may_refuse : List ℕ → Unopened → Type 0)
    (remaining : F → Option (List ℕ)) (list : List ℕ) where
  -- these are the numbers in the list
  pub record ReadsBids (bids : List ℕ) : Type 0 where
    pub bytes : List ℕ
    pub reads : ReadsList may_open may_refuse remaining list bytes
    pub faultless : faulty_line 1 (lines_in bytes) ≡ None
    pub are : bids ≡ bid_numbers bytes

  -- the list was read, and its words are not numbers, or memory was refused for them
  pub record RefusesBids (refusal : RunFault) : Type 0 where
    pub bytes : List ℕ
    pub reads : ReadsList may_open may_refuse remaining list bytes
    pub fault : BidNumbersFault
    pub refuses : RefusesNumbers bytes fault
    pub is : refusal ≡ Refused Only (fault_of_numbers fault)

  -- why there are no bids
  abbrev pub AreUnread : RunFault → Type 0
  AreUnread fault = IsUnread may_open may_refuse remaining list fault ⊎ RefusesBids fault

-- `Runs` is the run on the bids of some numbers.
module _ {F W E : Type 0} (may_open : List ℕ → F → Type 0) (may_refuse : List ℕ → Unopened → Type 0)
    (remaining : F → Option (List ℕ)) (messages : E → Option (List ℕ))
    (Runs : List ℕ → Watched W → Watched W → Watched E → Watched E → Result ℕ RunFault → Type 0) where
  -- the list was read, and the run is on the bids in it
  pub record RunsOnListedBids (list : List ℕ) (out out_after : Watched W) (err err_after : Watched E)
      (answer : Result ℕ RunFault) : Type 0 where
    pub bids : List ℕ
    pub reads : ReadsBids may_open may_refuse remaining list bids
    pub runs : Runs bids out out_after err err_after answer

  -- the run on the bids in the list, or else on those that are given
  abbrev pub RunsOnBids : Option (List ℕ) → List ℕ → Watched W → Watched W → Watched E → Watched E → Result ℕ RunFault
      → Type 0
  RunsOnBids None bids out out_after err err_after answer = Runs bids out out_after err err_after answer
  RunsOnBids (Some list) bids out out_after err err_after (Ok status) =
      RunsOnListedBids list out out_after err err_after (Ok status)
      ⊎ RefusesList messages (AreUnread may_open may_refuse remaining list) list out out_after err err_after status
  RunsOnBids (Some list) bids out out_after err err_after (Err fault) =
      RunsOnListedBids list out out_after err err_after (Err fault)
