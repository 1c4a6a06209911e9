-- `mark_all`
use Rattle.cats_text.proofs.Common.{arith, ◌≡◌, ◌-◌, ◌<◌, ◌≤◌, [], length, take, get_or, vec_len, take_more}
use Rattle.cats_text.proofs.Spelling.Marks.{IsMarked-push, IsMarked-covered}
use Rattle.cats_text.proofs.Spelling.Rising.{has_at, rising_new, last_is_most}
use Rattle.cats_text.proofs.good_list.mark_all.Goals as goal

pub loop-good-init : goal.loop-good-init
loop-good-init c =
    let goods = c.args.goods.now in
    record {
      marked = IsMarked-covered [] c.args.marks.now.items c.cover.new.marks.items c.args.bid_mark c.requires.fresh c.cover.ensures.same;
      space = λ k l.
          let last : c.from.result ≡ get_or goods (length goods - 1) 0 = c.from.ensures in
          let most : get_or goods k 0 ≤ get_or goods (length goods - 1) 0 = last_is_most goods 0 (get_or goods k 0) c.requires.rising (has_at goods k 0 l) in
          let covered : c.from.result < vec_len c.cover.new.marks = c.in_ok-cover.ensures.covered in
          omega arith;
    }

pub loop-good-preserved : goal.loop-good-preserved
loop-good-preserved c =
    let goods = c.args.goods.now in
    let i = c.loop-good.good-index in
    let here : i < length goods = omega (arith, c.loop-good-test.true) in
    let index : c.from-in-loop-good.result ≡ get_or goods i 0 = c.from-in-loop-good.ensures in
    record {
      marked = rw (take_more goods i 0 here, index) (IsMarked-push (take i goods) c.loop-good.marks.items c.args.bid_mark (get_or goods i 0)
          c.loop-good.invariant.marked (rising_new goods i 0 c.requires.rising here)
          (omega (arith, c.loop-good.invariant.space i here, c.loop-good.marks.ok.0)));
      space = c.loop-good.invariant.space;
    }
