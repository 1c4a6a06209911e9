-- `split_at`
use Rattle.cats_cmd.proofs.Common.{rules, tests, ap, map, ◌∙◌, YieldsList-at, YieldsList-end, YieldsList-from_slice_split}
use Rattle.cats_cmd.proofs.path_list.split_at.Goals as goal

pub returns : goal.returns
returns c =
    let split =
    YieldsList-from_slice_split _ _ c.args.text.now c.split-part-items.ensures.rest c.split-part-items.ensures.done c.split-part-items.ensures.closure
    (λ x r q k. search (rules, tests)) in
    let all = YieldsList-at c.into_iter-part-iterator.ensures.into_iter_gives split in
    ap (map (λ part. part.now)) c.loop-part.invariant
    ∙ (YieldsList-end all c.loop-part.yielded _ c.loop-part.yielded_by _ _ c.in-None.is c.next.ensures.steps).0
