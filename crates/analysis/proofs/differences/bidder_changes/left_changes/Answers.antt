-- `left_changes`: one more left bidder has its change, and its partner waits no more.
use Rattle.analysis.proofs.Common.{rules, ◌≡◌, ◌∙◌, ◌<◌, ℕ, List, length, map, take, get_or, sym, ap, ap₂, subst, Option, All, IfSome, Vec, Global, length-map}
use Rattle.analysis.proofs.Common.{map_push, take_more, All-filter, Atom, offers, bidder_at, partner_of, waiting_after, without_partner, waits_at, ArePartners}
use Rattle.analysis.proofs.Common.{plain_bidder_change}
use Rattle.analysis.proofs.Comparing.BidsOfBidders.{bids_are, bids_in_order}
use Rattle.analysis.proofs.Comparing.Changes.{one_more_left}
use Rattle.analysis.proofs.Comparing.Waiting.{taken, taken_has, waiting_more}
use Rattle.analysis.proofs.differences.bidder_changes.left_changes.Goals as goal

pub take_for-partner-requires : goal.take_for-partner-requires
take_for-partner-requires g c = search (rules, bids_in_order, c.requires.lefts, c.loop-index-test.true, c.index-left-index.is, c.requires.left_in_order)

pub change_of-requires-clause-other : goal.change_of-requires-clause-other
change_of-requires-clause-other g c =
    let h = c.loop-index.invariant in
    let left = map offers c.args.left.now in
    let right = map offers c.args.right.now in
    let lefts = c.args.lefts.now in
    let k = c.loop-index.index-index in
    let index = get_or lefts k 0 in
    let bids = c.index-left-index.result in
    let excess = c.args.partners.now.excess.items in
    let now = waiting_after right excess excess (map (bidder_at left) (take k lefts)) in
    let is : c.take_for-partner.result ≡ partner_of right excess now (bidder_at left index) =
    c.take_for-partner.ensures.partner right now h.waiting
    ∙ ap₂ (λ (v : Vec ℕ Global) (atoms : List (Atom (List ℕ))). partner_of right v.items now atoms) h.same
    (bids_are c.args.left.now index bids (c.requires.lefts k 0 c.loop-index-test.true) c.index-left-index.is) in
    let all : All (λ i. i < length c.args.right.now) now =
    subst (All (λ i. i < length c.args.right.now)) h.waiting.wait
    (All-filter (waits_at c.loop-index.partners.waits.items) (λ i. i < length c.args.right.now) c.loop-index.partners.excess.items
    (subst (λ (n : ℕ). All (λ i. i < n) c.loop-index.partners.excess.items) (length-map c.args.right.now offers) h.waiting.within)) in
    subst (λ (p : Option ℕ). IfSome p (λ i. i < length c.args.right.now)) (sym is)
    (taken_has (λ i. i < length c.args.right.now) now _ (partner_of right excess now (bidder_at left index))
    (taken right excess now (bidder_at left index) h.so_far.in_order) all)

pub loop-index-preserved : goal.loop-index-preserved
loop-index-preserved g c =
    let h = c.loop-index.invariant in
    let left = map offers c.args.left.now in
    let right = map offers c.args.right.now in
    let lefts = c.args.lefts.now in
    let k = c.loop-index.index-index in
    let index = get_or lefts k 0 in
    let bids = c.index-left-index.result in
    let excess = c.args.partners.now.excess.items in
    let now = waiting_after right excess excess (map (bidder_at left) (take k lefts)) in
    let partner = c.take_for-partner.result in
    let is : partner ≡ partner_of right excess now (bidder_at left index) =
    c.take_for-partner.ensures.partner right now h.waiting
    ∙ ap₂ (λ (v : Vec ℕ Global) (atoms : List (Atom (List ℕ))). partner_of right v.items now atoms) h.same
    (bids_are c.args.left.now index bids (c.requires.lefts k 0 c.loop-index-test.true) c.index-left-index.is) in
    let changes = c.loop-index.changes.items in
    let change = c.in_ok-change_of.field-0 in
    rw (take_more lefts k 0 c.loop-index-test.true, c.in_ok-push.ensures.items, map_push plain_bidder_change changes change) (record {
      same = c.take_for-partner.ensures.excess ∙ h.same;
      waiting = subst (λ (xs : List ℕ). ArePartners right xs c.take_for-partner.new.self)
          (ap (λ (p : Option ℕ). without_partner p now) is ∙ sym (ap (waiting_after right excess excess) (map_push (bidder_at left) (take k lefts) index)
          ∙ waiting_more right excess excess (map (bidder_at left) (take k lefts)) (bidder_at left index)))
          (c.take_for-partner.ensures.partners right now h.waiting);
      so_far = one_more_left left right (take k lefts) index partner excess (map plain_bidder_change changes) (plain_bidder_change change) h.so_far is
          c.in_ok-change_of.ensures.change c.in_ok-change_of.ensures.left c.in_ok-change_of.ensures.right;
    })
