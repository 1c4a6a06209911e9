-- `all_apart`
use Rattle.goods_set.proofs.Common.{rules, ℕ, ◌+◌, ◌≤◌, length, sym, arith, bit_and, words_apart, words_sharing}
use Rattle.goods_set.proofs.Lanes.{lanes_shared, none_more, some_here}
use Rattle.goods_set.proofs.word_set.lanes.all_apart.Goals as goal

pub returns-then-shared-ne0 : goal.returns-then-shared-ne0
returns-then-shared-ne0 c =
    let xs = c.args.one.now in
    let ys = c.args.other.now in
    let i : ℕ = c.loop-i.i in
    let space : i + 8 ≤ length xs = omega arith in
    let s = some_here (bit_and) xs ys i _ (lanes_shared xs ys i space c.requires) space c.if-shared-ne0.true in
    sym (words_sharing (length xs) xs ys s.index (λ k. (c.type_inv.one k).fits) s.within s.holds)

pub loop-i-preserved : goal.loop-i-preserved
loop-i-preserved c =
    let xs = c.args.one.now in
    let ys = c.args.other.now in
    let i : ℕ = c.loop-i.i in
    let space : i + 8 ≤ length xs = omega arith in
    record { within = space; none = none_more (bit_and) xs ys i _ (lanes_shared xs ys i space c.requires) c.if-shared-ne0.false c.loop-i.invariant.none }

pub returns-then-one-k-ne0 : goal.returns-then-one-k-ne0
returns-then-one-k-ne0 c = search (rules, words_sharing)

pub returns : goal.returns
returns c = search (rules, words_apart)
