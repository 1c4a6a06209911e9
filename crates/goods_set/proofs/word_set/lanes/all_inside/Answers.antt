-- `all_inside`
use Rattle.goods_set.proofs.Common.{rules, ℕ, ◌+◌, ◌≤◌, length, sym, arith, w64, bit_not, bit_and, words_inside, words_outside}
use Rattle.goods_set.proofs.Lanes.{lanes_outside, none_more, some_here}
use Rattle.goods_set.proofs.word_set.lanes.all_inside.Goals as goal

pub returns-then-outside-ne0 : goal.returns-then-outside-ne0
returns-then-outside-ne0 c =
    let xs = c.args.inner.now in
    let ys = c.args.outer.now in
    let i : ℕ = c.loop-i.i in
    let space : i + 8 ≤ length xs = omega arith in
    let s = some_here (λ x y. bit_and x (bit_not w64 y)) xs ys i _ (lanes_outside xs ys i space c.requires) space c.if-outside-ne0.true in
    sym (words_outside (length xs) xs ys s.index (λ k. (c.type_inv.inner k).fits) (λ k. (c.type_inv.outer k).fits) s.within s.holds)

pub loop-i-preserved : goal.loop-i-preserved
loop-i-preserved c =
    let xs = c.args.inner.now in
    let ys = c.args.outer.now in
    let i : ℕ = c.loop-i.i in
    let space : i + 8 ≤ length xs = omega arith in
    record {
      within = space;
      none = none_more (λ x y. bit_and x (bit_not w64 y)) xs ys i _ (lanes_outside xs ys i space c.requires) c.if-outside-ne0.false
          c.loop-i.invariant.none;
    }

pub returns-then-inner-k-ne0 : goal.returns-then-inner-k-ne0
returns-then-inner-k-ne0 c = search (rules, words_outside)

pub returns : goal.returns
returns c = search (rules, words_inside)
