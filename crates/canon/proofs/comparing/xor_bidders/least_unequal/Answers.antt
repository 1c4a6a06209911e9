-- `least_unequal`: the bidders that were walked past are the same on both sides (proofs/BidderWalks), so the first difference is at the two that come
-- next, of which the lesser is the least uneven one, or at the end of one list.
use Rattle.canon.proofs.Common.{rules, ◌≡◌, ◌⊎◌, inl, inr, List, length, Option, Some, None, sym, subst, MatchOption, PlainBid, offers, least_unequal_bidder}
use Rattle.canon.proofs.Walks.BidderWalks.{alike_further, alike_canonical, least_left, least_right, least_at_end}
use Rattle.canon.proofs.comparing.xor_bidders.least_unequal.Goals as goal
use Rattle.canon.proofs.comparing.xor_bidders.least_unequal.Goals.{in_default, in_default-2}

pub loop-one-init : goal.loop-one-init
loop-one-init g c = λ a b h k. rw (c.from-left_rest.ensures, c.from-right_rest.ensures) (alike_canonical a b c.args.left.now c.args.right.now h k)

pub returns-in-Less : goal.returns-in-Less
returns-in-Less g c = λ a b h k.
    least_left a b c.args.left.now c.args.right.now h k c.loop-one.left_rest c.loop-one.right_rest (c.loop-one.invariant a b h k)
    c.in-Some-Some.one c.in-Some-Some.other c.in-Some-Some.ensures c.in-Some-Some.ensures' (sym c.in-Less.ensures)

pub returns-in-Greater : goal.returns-in-Greater
returns-in-Greater g c = λ a b h k.
    least_right a b c.args.left.now c.args.right.now h k c.loop-one.left_rest c.loop-one.right_rest (c.loop-one.invariant a b h k)
    c.in-Some-Some.one c.in-Some-Some.other c.in-Some-Some.ensures c.in-Some-Some.ensures' (sym c.in-Greater.ensures)

pub loop-one-preserved : goal.loop-one-preserved
loop-one-preserved g c = search (rules, alike_further)

pub returns : goal.returns
returns g c = λ a b h k.
    let left = c.loop-one.left_rest in
    let right = c.loop-one.right_rest in
    let ended : (length left ≡ 0) ⊎ (length right ≡ 0) = elim c.match-first_bidder.branch [
      | in_default w ↦ inr w.in_default.ensures'
      | in_default-2 w ↦ inl w.in_default.ensures
    ] in
    subst (λ (o : Option (List PlainBid)). MatchOption o (least_unequal_bidder a b ≡ None) (λ x. least_unequal_bidder a b ≡ Some (offers x)))
    (sym c.or.ensures)
    (least_at_end a b c.args.left.now c.args.right.now h k left right (c.loop-one.invariant a b h k) c.first_bidder-2.result
    c.first_bidder-3.result c.first_bidder-2.ensures c.first_bidder-3.ensures ended)
