-- `prune_or_by`: A turn of the loop keeps a bid exactly if the search does not reach its price, which is a turn of proofs/Results; a search that
-- gives up has found a heavy bundle; and at the end the kept bids are the points.
use Rattle.prune.proofs.Common.{Err, ◌≡◌, ◌<◌, ◌≤◌, length, refl, sym, ap, ◌∙◌, subst, take, cond, [], ◌∷◌, ◌++◌, arith, append-nil, map, rules, get_or_read}
use Rattle.prune.proofs.Common.{MAX_GOODS, SearchOptions, atoms_of, plain_atom, or_is_value, or_fate, plain_fate, IsFinderOf}
use Rattle.prune.proofs.Common.{on_bundles, or_points}
use Rattle.prune.proofs.NotedFates.{noted_all, or_noted_dropped, or_noted_kept}
use Rattle.prune.proofs.Prefixes.{next_left}
use Rattle.prune.proofs.Pruning.{IsKept-none}
use Rattle.prune.proofs.PruningLoop.{next_turn, one_done, one_kept, one_left, none_left, loop_end}
use Rattle.prune.proofs.Refusals.{IsWithin, IsWithin-end, IsWithin-next, IsWithin-refused, IsWithin-start}
use Rattle.prune.proofs.Results.{turn_next, bid_reached, bid_missed}
use Rattle.prune.proofs.or.prune_or_by.Goals as goal

pub decide-requires-clause-next : goal.decide-requires-clause-next
decide-requires-clause-next g c =
    let goods = g.S.GoodsSet.goods in
    let h = c.loop-next.invariant in
    let now = c.loop-next.atoms in
    let there : c.loop-next.next < length now.items =
    omega (arith, c.loop-next-test.true, c.len-next-end.ensures, c.keep_best_bids.new.bids.ok.0, h.left.long) in
    let turn = next_turn goods (λ s. (g.met.S.GoodsSet.is_bundle s).0) _ _ now.items c.loop-next.next c.index.result.now
    c.in_ok-keep_best_bids.ensures.best h.left there c.index.ensures in
    rw c.deref-in-loop-next.ensures.value (turn_next MAX_GOODS _ _ _ _ _ turn c.requires.atoms h.kept.in_order h.kept.among)

pub decide-requires-clause-finder : goal.decide-requires-clause-finder
decide-requires-clause-finder g c = rw c.deref-in-loop-next.ensures.value c.loop-next.invariant.finder

pub loop-next-init : goal.loop-next-init
loop-next-init g c =
    let bids = atoms_of g.S.GoodsSet.goods c.args.atoms.items in
    let best = atoms_of g.S.GoodsSet.goods c.keep_best_bids.new.bids.items in
    record {
      left = record { long = refl; rest = refl };
      finder = c.in_ok-finder.ensures.finder;
      kept = IsKept-none or_is_value;
      within = subst (λ (o : SearchOptions). IsWithin c.args.options o bids best) (sym c.in_ok-finder.ensures.options)
          (IsWithin-start c.args.options bids best c.in_ok-keep_best_bids.ensures.best);
      fewer = omega arith;
      wanted = refl;
      noted = λ _. ap (map plain_fate) c.requires.empty;
    }

pub loop-next-preserved-then-is_dropped : goal.loop-next-preserved-then-is_dropped
loop-next-preserved-then-is_dropped g c =
    let goods = g.S.GoodsSet.goods in
    let h = c.loop-next.invariant in
    let now = c.loop-next.atoms in
    let there : c.loop-next.next < length now.items =
    omega (arith, c.loop-next-test.true, c.len-next-end.ensures, c.keep_best_bids.new.bids.ok.0, h.left.long) in
    let turn = next_turn goods (λ s. (g.met.S.GoodsSet.is_bundle s).0) _ _ now.items c.loop-next.next c.index.result.now
    c.in_ok-keep_best_bids.ensures.best h.left there c.index.ensures in
    let kept = atoms_of goods (take c.loop-next.kept now.items) in
    let within = subst (IsWithin _ _ _) (one_left goods _ _ _ _ h.left there c.index.ensures) h.within in
    let done = one_done goods _ _ _ _ h.left there c.index.ensures in
    let decided = rw c.deref-in-loop-next.ensures.value at c.in-Ok.ensures.decided in
    let ready = rw c.deref-in-loop-next.ensures.value at c.in-Ok.ensures.finder in
    let dropped = sym c.is_some-is_dropped.ensures ∙ c.if-is_dropped.true in
    record {
      left = next_left _ _ _ _ h.left there c.index.ensures now.items refl refl;
      finder = subst (λ zs. IsFinderOf zs c.decide.new.self) (append-nil kept)
          (subst (λ b. IsFinderOf (kept ++ cond b [] (plain_atom goods c.index.result.now ∷ [])) c.decide.new.self) dropped ready);
      kept = rw done (bid_reached or_is_value _ _ _ _ kept turn h.kept (sym dropped ∙ decided.answer.answer));
      within = IsWithin-next _ _ _ _ _ _ kept turn h.kept within _ decided.within decided.left;
      fewer = omega (arith, h.fewer);
      wanted = c.note.ensures.wanted ∙ h.wanted;
      noted = λ w.
          rw done (or_noted_dropped _ _ _ _ kept turn h.kept.among c.args.options.kind _ h.within.kind _ _ c.in-Ok.found
          (c.in_ok-note.ensures.noted (h.wanted ∙ w)) decided.answer.answer decided.answer.indices (h.noted w));
    }

pub loop-next-preserved : goal.loop-next-preserved
loop-next-preserved g c =
    let goods = g.S.GoodsSet.goods in
    let h = c.loop-next.invariant in
    let now = c.loop-next.atoms in
    let there : c.loop-next.next < length now.items =
    omega (arith, c.loop-next-test.true, c.len-next-end.ensures, c.keep_best_bids.new.bids.ok.0, h.left.long) in
    let turn = next_turn goods (λ s. (g.met.S.GoodsSet.is_bundle s).0) _ _ now.items c.loop-next.next c.index.result.now
    c.in_ok-keep_best_bids.ensures.best h.left there c.index.ensures in
    let kept = atoms_of goods (take c.loop-next.kept now.items) in
    let within = subst (IsWithin _ _ _) (one_left goods _ _ _ _ h.left there c.index.ensures) h.within in
    let done = one_done goods _ _ _ _ h.left there c.index.ensures in
    let decided = rw c.deref-in-loop-next.ensures.value at c.in-Ok.ensures.decided in
    let ready = rw c.deref-in-loop-next.ensures.value at c.in-Ok.ensures.finder in
    let missed = sym c.is_some-is_dropped.ensures ∙ c.if-is_dropped.false in
    let after = c.move_to_prefix.new.elements in
    let moved = c.move_to_prefix.ensures in
    let more = one_kept goods now.items after.items c.loop-next.kept _ _ c.index.ensures moved.prefix in
    record {
      left = next_left _ _ _ _ h.left there c.index.ensures after.items (omega (arith, moved.len, after.ok.0, now.ok.0))
          moved.rest;
      finder = rw more (subst (λ b. IsFinderOf (kept ++ cond b [] (plain_atom goods c.index.result.now ∷ [])) c.decide.new.self) missed ready);
      kept = rw (done, more) (bid_missed or_is_value _ _ _ _ kept turn h.kept (sym missed ∙ decided.answer.answer));
      within = IsWithin-next _ _ _ _ _ _ kept turn h.kept within _ decided.within decided.left;
      fewer = omega (arith, h.fewer);
      wanted = c.note.ensures.wanted ∙ h.wanted;
      noted = λ w.
          rw (done, more) (or_noted_kept _ _ _ _ kept turn h.kept.among c.args.options.kind _ h.within.kind _ _ c.in-Ok.found
          (c.in_ok-note.ensures.noted (h.wanted ∙ w)) decided.answer.answer decided.answer.indices (h.noted w));
    }

pub returns-in-Err-StepLimit-clause-refused : goal.returns-in-Err-StepLimit-clause-refused
returns-in-Err-StepLimit-clause-refused g c =
    let goods = g.S.GoodsSet.goods in
    let h = c.loop-next.invariant in
    let now = c.loop-next.atoms in
    let there : c.loop-next.next < length now.items =
    omega (arith, c.loop-next-test.true, c.len-next-end.ensures, c.keep_best_bids.new.bids.ok.0, h.left.long) in
    let turn = next_turn goods (λ s. (g.met.S.GoodsSet.is_bundle s).0) _ _ now.items c.loop-next.next c.index.result.now
    c.in_ok-keep_best_bids.ensures.best h.left there c.index.ensures in
    let within = subst (IsWithin _ _ _) (one_left goods _ _ _ _ h.left there c.index.ensures) h.within in
    let decided = rw c.deref-in-loop-next.ensures.value at c.in-Err-StepLimit.ensures.decided in
    let over = decided.step_limit (ap Err c.in-Err-StepLimit.field-0-is) in
    let removed = c.swap_remove-bundle.result in
    let read : c.index.result.now ≡ removed =
    get_or_read now.items _ c.index.result.now there c.index.ensures removed ∙ sym c.swap_remove-bundle.ensures.value in
    rw (sym read) (IsWithin-refused _ _ _ _ _ _ _ turn h.kept within over)

pub returns : goal.returns
returns g c =
    let goods = g.S.GoodsSet.goods in
    let bids = atoms_of goods c.args.atoms.items in
    let h = c.loop-next.invariant in
    let best = c.keep_best_bids.new.bids in
    let options = c.loop-next.finder.search.options in
    let all : length best.items ≤ c.loop-next.next = omega (arith, c.loop-next-test.false, c.len-next-end.ensures, best.ok.0) in
    let done = loop_end or_is_value goods MAX_GOODS bids best.items _ _ c.loop-next.next (on_bundles MAX_GOODS bids c.requires.atoms)
    c.in_ok-keep_best_bids.ensures.best h.kept all c.truncate.ensures.items in
    record {
      points = λ n are. done.points n (on_bundles n bids are);
      none_refused = λ n are.
          IsWithin-end c.args.options options bids (subst (IsWithin c.args.options options bids) (none_left goods best.items c.loop-next.next all) h.within)
          n are;
      values = done.values;
      bids = done.among;
      in_order = done.in_order;
      no_longer = search rules;
      refused = tt;
      fates = λ w n are.
          let on = on_bundles n bids are in
          noted_all goods (or_fate c.args.options.kind) n bids (or_points n bids) best.items _ _ c.loop-next.next _ on c.in_ok-keep_best_bids.ensures.best all
          c.truncate.ensures.items (done.points n on) (h.noted w);
    }
