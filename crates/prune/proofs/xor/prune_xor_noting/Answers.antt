-- `prune_xor_noting`
-- A turn of the loop keeps a bid exactly if no kept bid inside its bundle dominates it, which is a turn of proofs/Results; and at the
-- end the kept bids are the points.
use Rattle.prune.proofs.Common.{◌<◌, ◌≤◌, cond, [], ◌∷◌, ◌++◌, append-nil, length, refl, sym, ◌∙◌, subst, take, arith, rules, ap, MAX_GOODS, atoms_of}
use Rattle.prune.proofs.Common.{plain_atom, IsIndexOf, on_bundles, just_bundles, is_some, IfSome, xor_points, xor_fate, xor_is_value}
use Rattle.prune.proofs.Prefixes.{next_left}
use Rattle.prune.proofs.NotedFates.{noted_all, xor_noted_dropped, xor_noted_kept}
use Rattle.prune.proofs.FirstDominating.{is_some-first_dominating}
use Rattle.prune.proofs.PruningLoop.{next_turn, one_done, one_kept, loop_end, dominates_is}
use Rattle.prune.proofs.Results.{turn_positive, turn_next, bid_reached, bid_missed}
use Rattle.prune.proofs.xor.prune_xor_noting.Goals as goal
use Rattle.prune.proofs.xor.prune_xor_noting.Goals.{then-is_none, else-is_none}

pub first_kept_dominating-requires-clause-next : goal.first_kept_dominating-requires-clause-next
first_kept_dominating-requires-clause-next g c =
    let goods = g.S.GoodsSet.goods in
    let h = c.loop-next.invariant in
    let best = c.keep_best_bids.new.bids in
    let now = c.loop-next.atoms in
    let next = c.loop-next.next in
    let bid = c.index.result.now in
    let kept = atoms_of goods (take c.loop-next.kept now.items) in
    let there : next < length now.items = omega (arith, c.loop-next-test.true, c.len-next-end.ensures, best.ok.0, h.left.long) in
    let turn = next_turn goods (λ s. (g.met.S.GoodsSet.is_bundle s).0) (atoms_of goods c.args.atoms.items) best.items now.items next bid
    c.in_ok-keep_best_bids.ensures.best h.left there c.index.ensures in
    rw c.deref-in-loop-next.ensures.value (turn_next MAX_GOODS _ _ _ _ kept turn c.requires.atoms h.kept.in_order h.kept.among)

pub first_kept_dominating-requires-clause-index : goal.first_kept_dominating-requires-clause-index
first_kept_dominating-requires-clause-index g c = rw c.deref-in-loop-next.ensures.value c.loop-next.invariant.index

pub loop-next-preserved : goal.loop-next-preserved
loop-next-preserved g c =
    let goods = g.S.GoodsSet.goods in
    let h = c.loop-next.invariant in
    let best = c.keep_best_bids.new.bids in
    let now = c.loop-next.atoms in
    let next = c.loop-next.next in
    let bid = c.index.result.now in
    let kept = atoms_of goods (take c.loop-next.kept now.items) in
    let there : next < length now.items = omega (arith, c.loop-next-test.true, c.len-next-end.ensures, best.ok.0, h.left.long) in
    let turn = next_turn goods (λ s. (g.met.S.GoodsSet.is_bundle s).0) (atoms_of goods c.args.atoms.items) best.items now.items next bid
    c.in_ok-keep_best_bids.ensures.best h.left there c.index.ensures in
    let done = one_done goods best.items now.items next bid h.left there c.index.ensures in
    let same = c.deref-in-loop-next.ensures.value in
    let index = c.first_kept_dominating.new.index in
    let found = c.in_ok-found.found in
    let answer = rw same at c.in_ok-found.ensures.found in
    let reaches = ap is_some answer ∙ is_some-first_dominating kept (goods bid.bundle) bid.price
    ∙ dominates_is bid.price (goods bid.bundle) kept (turn_positive _ _ _ _ turn) in
    let indexed = rw same at c.in_ok-found.ensures.index in
    elim c.if-is_none.branch [
      | then-is_none w ↦
          let after = w.move_to_prefix.new.elements in
          let moved = w.move_to_prefix.ensures in
          let more = one_kept goods now.items after.items c.loop-next.kept next bid c.index.ensures moved.prefix in
          rw (w.atoms-is, w.kept-is) (record {
            left = next_left best.items now.items next bid h.left there c.index.ensures after.items (omega (
              arith,
              moved.len,
              after.ok.0,
              now.ok.0,
            )) moved.rest;
            index = rw more (subst (λ b. IfSome index (IsIndexOf (kept ++ cond b [] (plain_atom goods bid ∷ [])))) w.if-is_none.ensures indexed);
            kept = rw (done, more) (bid_missed xor_is_value _ _ _ _ kept turn h.kept (sym w.if-is_none.ensures ∙ reaches));
            fewer = omega (arith, h.fewer);
            wanted = c.note.ensures.wanted ∙ h.wanted;
            noted = λ w.
                rw (done, more) (xor_noted_kept _ _ _ _ kept turn h.kept.among _ _ found (c.in_ok-note.ensures.noted (h.wanted ∙ w)) answer (h.noted w));
          })
      | else-is_none w ↦
          rw (w.atoms-is, w.kept-is) (record {
            left = next_left best.items now.items next bid h.left there c.index.ensures now.items refl refl;
            index = subst (λ zs. IfSome index (IsIndexOf zs)) (append-nil kept)
                (subst (λ b. IfSome index (IsIndexOf (kept ++ cond b [] (plain_atom goods bid ∷ [])))) w.if-is_none.ensures indexed);
            kept = rw done (bid_reached xor_is_value _ _ _ _ kept turn h.kept (sym w.if-is_none.ensures ∙ reaches));
            fewer = omega (arith, h.fewer);
            wanted = c.note.ensures.wanted ∙ h.wanted;
            noted = λ w.
                rw done (xor_noted_dropped _ _ _ _ kept turn h.kept.among _ _ found (c.in_ok-note.ensures.noted (h.wanted ∙ w)) answer (h.noted w));
          })
    ]

pub returns : goal.returns
returns g c =
    let goods = g.S.GoodsSet.goods in
    let bids = atoms_of goods c.args.atoms.items in
    let best = c.keep_best_bids.new.bids in
    let h = c.loop-next.invariant in
    let all : length best.items ≤ c.loop-next.next = omega (arith, c.loop-next-test.false, c.len-next-end.ensures, best.ok.0) in
    let done = loop_end xor_is_value goods MAX_GOODS bids best.items _ _ c.loop-next.next
    (just_bundles MAX_GOODS bids (on_bundles MAX_GOODS bids c.requires.atoms))
    c.in_ok-keep_best_bids.ensures.best h.kept all c.truncate.ensures.items in
    record {
      points = λ n are. done.points n (just_bundles n bids (on_bundles n bids are));
      values = done.values;
      bids = done.among;
      in_order = done.in_order;
      no_longer = search rules;
      fates = λ w n are.
          let on = on_bundles n bids are in
          noted_all goods xor_fate n bids (xor_points n bids) best.items _ _ c.loop-next.next _ on c.in_ok-keep_best_bids.ensures.best all
          c.truncate.ensures.items (done.points n (just_bundles n bids on)) (h.noted w);
    }
