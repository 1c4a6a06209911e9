-- `first_clash`
use Rattle.analysis.proofs.Common.{Some, ◌≡◌, ◌-◌, ◌<◌, [], None, ℕ, List, Option, All, arith, get_or, length, ap, ap₂, sym, subst, refl, ◌∙◌, PlainBid}
use Rattle.analysis.proofs.Common.{get_or_from_slice_get, PlainFile, goods_of, seen_bid, pair_or, held_by, least_holder, take_at}
use Rattle.analysis.proofs.Allocating.FindingClashes.{goods_held, one_walked, number_there}
use Rattle.analysis.proofs.winners.clashes.first_clash.Goals.{in-Some, in_default}
use Rattle.analysis.proofs.winners.clashes.first_clash.Goals as goal

pub at-bid-requires : goal.at-bid-requires
at-bid-requires c = number_there c.args.file.now c.args.winners.now c.requires.numbers (c.loop-index.index - 1) (omega arith)

pub least_holder-requires : goal.least_holder-requires
least_holder-requires c =
    let f : PlainFile = c.args.file.now in
    let index = c.loop-index.index - 1 in
    let n = get_or c.args.winners.now index 0 in
    let here = sym (get_or_from_slice_get f.bids n (seen_bid c.at-bid.result) (record { price = 0; goods = []; dummy = None }) c.at-bid.ensures) in
    subst (λ (goods : ℕ). All (λ good. good < length c.deref.result.now) (goods_of goods (seen_bid c.at-bid.result))) (sym c.goods-goods.ensures.value)
    (subst (λ (holders : List (Option ℕ)). All (λ good. good < length holders) (goods_of f.goods (seen_bid c.at-bid.result))) (sym c.deref.ensures.value)
    (goods_held f c.requires.plain c.args.winners.now c.requires.numbers index c.loop-index.index n (omega arith) (omega arith) refl (seen_bid c.at-bid.result)
    here c.loop-index.holders.items c.loop-index.clash c.loop-index.invariant))

pub hold-requires : goal.hold-requires
hold-requires c =
    let f : PlainFile = c.args.file.now in
    let index = c.loop-index.index - 1 in
    let n = get_or c.args.winners.now index 0 in
    let here = sym (get_or_from_slice_get f.bids n (seen_bid c.at-bid.result) (record { price = 0; goods = []; dummy = None }) c.at-bid.ensures) in
    subst (λ (goods : ℕ). All (λ good. good < length c.deref_mut.result.now) (goods_of goods (seen_bid c.at-bid.result))) (sym c.goods-goods.ensures.value)
    (subst (λ (holders : List (Option ℕ)). All (λ good. good < length holders) (goods_of f.goods (seen_bid c.at-bid.result))) (sym c.deref_mut.ensures.value)
    (goods_held f c.requires.plain c.args.winners.now c.requires.numbers index c.loop-index.index n (omega arith) (omega arith) refl (seen_bid c.at-bid.result)
    here c.loop-index.holders.items c.loop-index.clash c.loop-index.invariant))

pub loop-index-preserved : goal.loop-index-preserved
loop-index-preserved c =
    let f : PlainFile = c.args.file.now in
    let index = c.loop-index.index - 1 in
    let n = get_or c.args.winners.now index 0 in
    let bid : PlainBid = seen_bid c.at-bid.result in
    let here = sym (get_or_from_slice_get f.bids n bid (record { price = 0; goods = []; dummy = None }) c.at-bid.ensures) in
    let holders : List (Option ℕ) = c.loop-index.holders.items in
    let found : c.least_holder.result ≡ least_holder holders None (goods_of f.goods bid) =
    c.least_holder.ensures
    ∙ ap₂ (λ (hs : List (Option ℕ)) (goods : ℕ). least_holder hs None (goods_of goods bid)) c.deref.ensures.value c.goods-goods.ensures.value in
    let clash : c.match-least_holder.clash ≡ pair_or n (least_holder holders None (goods_of f.goods bid)) c.loop-index.clash =
    elim c.match-least_holder.branch [
      | in-Some w ↦
          let named : ◌≡◌ {A = Option (ℕ × ℕ)} (Some (n, w.in-Some.rival)) (pair_or n (least_holder holders None (goods_of f.goods bid)) c.loop-index.clash) =
          ap (λ (o : Option ℕ). pair_or n o c.loop-index.clash) (sym w.in-Some.is ∙ found) in
          cc
      | in_default w ↦ w.clash-is ∙ ap (λ (o : Option ℕ). pair_or n o c.loop-index.clash) (sym w.in_default.is ∙ found)
    ] in
    let long : length c.hold.new.holders ≡ c.loop-index.holders.len = omega (arith, c.hold.auto.holders, c.deref_mut.ensures.len) in
    let held = c.hold.ensures
    ∙ ap₂ (λ (hs : List (Option ℕ)) (goods : ℕ). held_by n hs (goods_of goods bid)) c.deref_mut.ensures.value c.goods-goods.ensures.value in
    one_walked f c.requires.plain c.args.winners.now c.requires.numbers index c.loop-index.index n (omega arith) (omega arith) refl bid here holders
    c.loop-index.clash c.loop-index.invariant _ _ (take_at c.hold.new.holders _ c.loop-index.holders.len long ∙ held) clash
