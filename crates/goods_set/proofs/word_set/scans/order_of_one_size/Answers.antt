-- `order_of_one_size`
use Rattle.goods_set.proofs.Common.{rules, ℕ, length, get_or, sym, arith, xor_lt}
use Rattle.goods_set.proofs.Firsts.{differs_first, less_by_words, greater_by_words, equal_words}
use Rattle.goods_set.proofs.word_set.scans.order_of_one_size.Goals as goal

pub overflow_shr-a : goal.overflow_shr-a
overflow_shr-a c =
    let x : ℕ = get_or c.args.a.now c.loop-k.k 0 in
    let y : ℕ = get_or c.args.b.now c.loop-k.k 0 in
    (differs_first x y (xor_lt 64 x y (c.type_inv.a c.loop-k.k).fits (c.type_inv.b c.loop-k.k).fits) c.if-unshared-ne0.true).within

pub returns-then-a-k-eq1 : goal.returns-then-a-k-eq1
returns-then-a-k-eq1 c =
    let us = c.args.a.now in
    let vs = c.args.b.now in
    let k : ℕ = c.loop-k.k in
    let x : ℕ = get_or us k 0 in
    let y : ℕ = get_or vs k 0 in
    let d = differs_first x y (xor_lt 64 x y (c.type_inv.a k).fits (c.type_inv.b k).fits) c.if-unshared-ne0.true in
    sym (less_by_words (length us) us vs k _ (omega arith) c.loop-k.invariant d c.requires.same_size c.if-a-k-eq1.true)

pub returns-else-a-k-eq1 : goal.returns-else-a-k-eq1
returns-else-a-k-eq1 c =
    let us = c.args.a.now in
    let vs = c.args.b.now in
    let k : ℕ = c.loop-k.k in
    let x : ℕ = get_or us k 0 in
    let y : ℕ = get_or vs k 0 in
    let d = differs_first x y (xor_lt 64 x y (c.type_inv.a k).fits (c.type_inv.b k).fits) c.if-unshared-ne0.true in
    sym (greater_by_words (length us) us vs k _ (omega arith) c.loop-k.invariant d c.requires.same_size c.if-a-k-eq1.false)

pub returns : goal.returns
returns c = search (rules, equal_words)
