-- `judge_allocation`
use Rattle.analysis.proofs.Common.{rules, ℕ, Some, None, Ok, ap, sym, subst, ◌∙◌, Revenue, IsRisingOf}
use Rattle.analysis.proofs.Allocating.FirstPairs.{first_pair}
use Rattle.analysis.proofs.Allocating.NamedBids.{all_within, are_numbers, number_within, verdict_is}
use Rattle.analysis.proofs.winners.judging.judge_allocation.Goals as goal

pub first_clash-requires-clause-numbers : goal.first_clash-requires-clause-numbers
first_clash-requires-clause-numbers c =
    search (rules, are_numbers, c.as_slice-winners.ensures.value, c.in_ok-winners.ensures, c.first_missing.ensures, c.in_default.is)

pub clash-requires-clause-first : goal.clash-requires-clause-first
clash-requires-clause-first c =
    let rising = subst (IsRisingOf c.args.bids.now) (sym c.as_slice-winners.ensures.value) c.in_ok-winners.ensures in
    let found = sym c.in-Some-2.is ∙ c.in_ok-first.ensures in
    let pair = first_pair c.args.file.now c.as_slice-winners.result.now rising.rises c.in-Some-2.first c.in-Some-2.second (sym found) in
    number_within c.args.file.now c.args.bids.now c.as_slice-winners.result.now rising (sym c.first_missing.ensures ∙ c.in_default.is)
    c.in-Some-2.first pair.first

pub clash-requires-clause-second : goal.clash-requires-clause-second
clash-requires-clause-second c =
    let rising = subst (IsRisingOf c.args.bids.now) (sym c.as_slice-winners.ensures.value) c.in_ok-winners.ensures in
    let found = sym c.in-Some-2.is ∙ c.in_ok-first.ensures in
    let pair = first_pair c.args.file.now c.as_slice-winners.result.now rising.rises c.in-Some-2.first c.in-Some-2.second (sym found) in
    number_within c.args.file.now c.args.bids.now c.as_slice-winners.result.now rising (sym c.first_missing.ensures ∙ c.in_default.is)
    c.in-Some-2.second pair.second

pub returns-in-Some-2-clause-verdict : goal.returns-in-Some-2-clause-verdict
returns-in-Some-2-clause-verdict c =
    let rising = subst (IsRisingOf c.args.bids.now) (sym c.as_slice-winners.ensures.value) c.in_ok-winners.ensures in
    ap Ok c.clash.ensures ∙ verdict_is c.args.file.now c.args.bids.now c.as_slice-winners.result.now rising (sym c.first_missing.ensures ∙ c.in_default.is)
    (Some (c.in-Some-2.first, c.in-Some-2.second)) (sym c.in-Some-2.is ∙ c.in_ok-first.ensures)

pub revenue-requires-clause-within : goal.revenue-requires-clause-within
revenue-requires-clause-within c =
    search (rules, all_within, c.as_slice-winners.ensures.value, c.in_ok-winners.ensures, c.first_missing.ensures, c.in_default.is)

pub returns-clause-verdict : goal.returns-clause-verdict
returns-clause-verdict c =
    let rising = subst (IsRisingOf c.args.bids.now) (sym c.as_slice-winners.ensures.value) c.in_ok-winners.ensures in
    ap (λ (n : ℕ). Ok (Revenue n)) c.revenue.ensures
    ∙ verdict_is c.args.file.now c.args.bids.now c.as_slice-winners.result.now rising (sym c.first_missing.ensures ∙ c.in_default.is) None
    (sym c.in-None.is ∙ c.in_ok-first.ensures)
