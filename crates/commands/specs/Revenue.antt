-- What `cats revenue` prints: what bids bring as winners.
use Rattle.std.specs.Prelude.{ℕ, List, Result, Ok, Err}
use Rattle.bid_file.specs.Files.{PlainFile}
use Rattle.analysis.specs.AllocationVerdicts.{allocation_status, allocation_text, allocation_verdict}
use Rattle.analysis.specs.declared.winners.allocation_verdict.AllocationVerdict.{AllocationVerdict}
use Rattle.commands.specs.Outcomes.{Outcome, Prints, LacksBid}

-- the verdict on the bids, or the first of them that the file does not have
abbrev pub outcome_of_verdict : Result AllocationVerdict ℕ → Outcome
outcome_of_verdict (Err bid) = LacksBid bid
outcome_of_verdict (Ok verdict) = Prints (allocation_status verdict) (allocation_text verdict)

-- the outcome of `cats revenue` on the named bids
abbrev pub revenue_outcome : List ℕ → PlainFile → Outcome
revenue_outcome bids file = outcome_of_verdict (allocation_verdict file bids)
