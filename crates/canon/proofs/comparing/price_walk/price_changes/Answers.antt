-- `price_changes`
use Rattle.canon.proofs.Common.{sym, ap, ap₂, ◌∙◌, subst, map, items_from_drains, YieldsList-from_first, IfOk-weaker, offers, changes_of, ArePriceChanges}
use Rattle.canon.proofs.Common.{plain_change}
use Rattle.canon.proofs.Walks.PriceWalks.{are_all}
use Rattle.canon.proofs.comparing.price_walk.price_changes.Goals as goal

pub returns : goal.returns
returns g c =
    let left = offers c.args.left.now in
    let right = offers c.args.right.now in
    IfOk-weaker c.collect.result _ _ (λ changes ran.
    let all = items_from_drains ran.0 ran.1 (YieldsList-from_first plain_change (λ w. changes_of (offers w.left) (offers w.right)) (changes_of left right)
    (ap₂ (λ l r. changes_of (offers l) (offers r)) c.new.ensures.left c.new.ensures.right)) in
    subst (ArePriceChanges left right) (sym (ap (map plain_change) ran.2.0 ∙ all)) (are_all left right c.requires.left_in_order c.requires.right_in_order))
    c.collect.ensures.ran
