-- `BidsByNumber::into_kept`
use Rattle.cats_text.proofs.Common.{◌≡◌, ◌<◌, ◌≤◌, ◌+◌, ◌-◌, ◌∙◌, ◌++◌, ◌∷◌, [], ℕ, List, ap, take, get_or, length, arith, rules, refl, take_all, take_more}
use Rattle.cats_text.proofs.Common.{slice_get-get_or, AreWithin}
use Rattle.cats_text.proofs.Parsing.BidsByNumber.{filled_numbered, kept_none, kept_more, within_at}
use Rattle.cats_text.proofs.bids_by_number.BidsByNumber.into_kept.Goals.{then-arrival-gt0+in_ok-add_from, else-arrival-gt0}
use Rattle.cats_text.proofs.bids_by_number.BidsByNumber.into_kept.Goals as goal

pub returns-then-came_in_order-clause-bids : goal.returns-then-came_in_order-clause-bids
returns-then-came_in_order-clause-bids g c = search (rules, filled_numbered)

pub loop-arrival-preserved : goal.loop-arrival-preserved
loop-arrival-preserved g c =
    let came = g.K.Keep.bids c.self.inside.came in
    let arrivals : List ℕ = c.deref-arrival-items.result.now in
    let i : ℕ = c.loop-arrival.arrival-index in
    let p : ℕ = get_or arrivals i 0 in
    let all : AreWithin (length came) arrivals = rw c.deref-arrival-items.ensures.value c.self.invariant in
    let most : p ≤ length came = within_at (length came) arrivals i p all (slice_get-get_or arrivals i 0 c.loop-arrival-test.true) in
    let next : take (i + 1) arrivals ≡ take i arrivals ++ p ∷ [] = take_more arrivals i 0 c.loop-arrival-test.true in
    rw next
    (elim c.if-arrival-gt0.branch [
      | then-arrival-gt0+in_ok-add_from w ↦
          let some : 0 < p = w.if-arrival-gt0.true in
          let there : p - 1 < length came = omega arith in
          ap g.K.Keep.bids w.kept-is ∙ kept_more came (g.K.Keep.bids c.loop-arrival.kept) (g.K.Keep.bids w.add_from.new.self) (take i arrivals) p
          (p - 1) c.loop-arrival.invariant some refl there
          w.in_ok-add_from.ensures
      | else-arrival-gt0 w ↦
          let none : p ≤ 0 = w.if-arrival-gt0.false in
          ap g.K.Keep.bids w.kept-is ∙ kept_none came (g.K.Keep.bids c.loop-arrival.kept) (take i arrivals) p c.loop-arrival.invariant (omega arith)
    ])

pub returns-clause-bids : goal.returns-clause-bids
returns-clause-bids g c = search (rules, take_all)
