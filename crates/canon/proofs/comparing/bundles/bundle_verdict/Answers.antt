-- `bundle_verdict`
use Rattle.canon.proofs.Common.{sym, subst, plain_change, NamesGoods}
use Rattle.canon.proofs.Walks.OrWalks.{on_err, first_of_auctions, none_of_auctions}
use Rattle.canon.proofs.comparing.bundles.bundle_verdict.Goals as goal

pub returns-in_default-clause-verdict : goal.returns-in_default-clause-verdict
returns-in_default-clause-verdict g c a b h k e =
    none_of_auctions c.args.left.now c.args.right.now _ _ c.new.ensures.left c.new.ensures.right a b h k c.in_default.ensures.steps.0

pub returns-in_err-from_slice-clause-memory : goal.returns-in_err-from_slice-clause-memory
returns-in_err-from_slice-clause-memory g c a b h k e =
    on_err _ (subst NamesGoods (sym (first_of_auctions c.args.left.now c.args.right.now _ _ c.new.ensures.left c.new.ensures.right a b h k
    (plain_change c.in-Some.change) _ c.in-Some.ensures.steps e)) tt)

pub returns-clause-verdict : goal.returns-clause-verdict
returns-clause-verdict g c a b h k e =
    let goods = c.in_ok-from_slice.ensures.items in
    let left = c.side.ensures in
    let right = c.side-2.ensures in
    let first =
    first_of_auctions c.args.left.now c.args.right.now _ _ c.new.ensures.left c.new.ensures.right a b h k (plain_change c.in-Some.change) _
    c.in-Some.ensures.steps e in
    cc
