-- `BidsByNumber::put`
use Rattle.cats_text.proofs.Common.{rules, ◌≡◌, ◌+◌, ◌∷◌, [], length, ap, ◌∙◌, arith, length-append, AreWithin, with_goods}
use Rattle.cats_text.proofs.Parsing.BidsByNumber.{put_arrived, within_more, within_set}
use Rattle.cats_text.proofs.bids_by_number.BidsByNumber.put.Goals as goal

pub invariant_of-self : goal.invariant_of-self
invariant_of-self g c = c.pad.ensures.within (length (g.K.Keep.bids c.self.inside.came)) c.self.invariant

pub invariant_of-self-in_err-add : goal.invariant_of-self-in_err-add
invariant_of-self-in_err-add g c = rw c.in_err-add.ensures.same (c.pad.ensures.within (length (g.K.Keep.bids c.self.inside.came)) c.self.invariant)

pub invariant_of-self-2 : goal.invariant_of-self-2
invariant_of-self-2 g c =
    let came = g.K.Keep.bids c.self.inside.came in
    let next = g.K.Keep.bids c.add.new.self in
    let all : AreWithin (length came) c.pad.new.arrivals.items = c.pad.ensures.within (length came) c.self.invariant in
    let long : length next ≡ length came + 1 = ap length c.in_ok-add.ensures.kept
    ∙ length-append came (g.K.Keep.keep (with_goods c.args.draft.now c.args.goods.now) ∷ []) in
    within_set (length next) c.pad.new.arrivals.items c.args.draft.now.number c.count.result
    (within_more (length came) (length next) c.pad.new.arrivals.items all (omega arith)) (omega (arith, c.count.ensures))

pub returns : goal.returns
returns g c =
    let came = g.K.Keep.bids c.self.inside.came in
    let all : AreWithin (length came) c.pad.new.arrivals.items = c.pad.ensures.within (length came) c.self.invariant in
    search (rules, put_arrived)
