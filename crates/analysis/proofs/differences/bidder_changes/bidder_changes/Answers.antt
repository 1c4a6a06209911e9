-- `bidder_changes`: the changes of the left bidders, and those of the right bidders that still wait, are all.
use Rattle.analysis.proofs.Common.{rules, ◌≡◌, ◌∙◌, ◌<◌, ℕ, length, map, sym, ap, subst, Vec, Global, IsRising, offers, bidder_at, excess_bidders}
use Rattle.analysis.proofs.Common.{waiting_after, plain_bidder_change}
use Rattle.analysis.proofs.Comparing.Indices.{excess_within}
use Rattle.analysis.proofs.Comparing.Changes.{all_changes, excess_rises, rest_within}
use Rattle.analysis.proofs.differences.bidder_changes.bidder_changes.Goals as goal

pub of-requires-clause-within : goal.of-requires-clause-within
of-requires-clause-within g c = excess_within c.args.right.now (map offers c.args.left.now) c.in_ok-rights.rights.items c.in_ok-rights.ensures

pub of-requires-clause-rising : goal.of-requires-clause-rising
of-requires-clause-rising g c = subst IsRising (sym c.in_ok-rights.ensures) (excess_rises (map offers c.args.right.now) (map offers c.args.left.now))

pub left_changes-requires-clause-lefts : goal.left_changes-requires-clause-lefts
left_changes-requires-clause-lefts g c = search (rules, excess_within, c.deref.ensures.value, c.in_ok-lefts.ensures)

pub push_rest-requires-clause-rest : goal.push_rest-requires-clause-rest
push_rest-requires-clause-rest g c =
    let left = map offers c.args.left.now in
    let right = map offers c.args.right.now in
    let lefts = c.deref.result.now in
    let excess = c.in_ok-partners.partners.excess.items in
    let is : excess ≡ excess_bidders right left = ap (λ (v : Vec ℕ Global). v.items) c.in_ok-partners.ensures.excess ∙ c.in_ok-rights.ensures in
    let rest : c.deref-2.result.now ≡ waiting_after right excess excess (map (bidder_at left) lefts) =
    c.deref-2.ensures.value ∙ c.in_ok-rest.ensures ∙ c.in_ok-changes.ensures.partners.wait in
    rest_within (λ index. index < length c.args.right.now) left right lefts excess c.deref-2.result.now
    (map plain_bidder_change c.in_ok-changes.changes.items) c.in_ok-changes.ensures.lefts rest (excess_within c.args.right.now left excess is)

pub returns : goal.returns
returns g c =
    let left = map offers c.args.left.now in
    let right = map offers c.args.right.now in
    let lefts = c.deref.result.now in
    let excess = c.in_ok-partners.partners.excess.items in
    let is : excess ≡ excess_bidders right left = ap (λ (v : Vec ℕ Global). v.items) c.in_ok-partners.ensures.excess ∙ c.in_ok-rights.ensures in
    let rest : c.deref-2.result.now ≡ waiting_after right excess excess (map (bidder_at left) lefts) =
    c.deref-2.ensures.value ∙ c.in_ok-rest.ensures ∙ c.in_ok-changes.ensures.partners.wait in
    all_changes left right lefts excess c.deref-2.result.now (map plain_bidder_change c.in_ok-changes.changes.items)
    (map plain_bidder_change c.push_rest.new.changes.items) (c.deref.ensures.value ∙ c.in_ok-lefts.ensures) is rest c.in_ok-changes.ensures.lefts
    c.in_ok-push_rest.ensures
