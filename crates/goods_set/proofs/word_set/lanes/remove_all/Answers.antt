-- `remove_all`
use Rattle.goods_set.proofs.Common.{rules, ℕ, ◌+◌, ◌≤◌, length, arith, w64, bit_not, bit_and, length-put_chunk, words_without}
use Rattle.goods_set.proofs.Lanes.{lanes_outside, written_more, unwritten_more}
use Rattle.goods_set.proofs.word_set.lanes.remove_all.Goals as goal

pub loop-words-preserved : goal.loop-words-preserved
loop-words-preserved c =
    let xs = c.loop-words.words in
    let ys = c.args.taken.now in
    let i : ℕ = c.loop-words.i in
    let space : i + 8 ≤ length xs = omega arith in
    let lanes = lanes_outside xs ys i space (omega arith) in
    record {
      within = omega (arith, length-put_chunk {A = ℕ});
      done = written_more (λ x y. bit_and x (bit_not w64 y)) c.args.words.now xs ys i _ lanes space c.loop-words.invariant.done c.loop-words.invariant.rest;
      rest = unwritten_more (λ x y. bit_and x (bit_not w64 y)) c.args.words.now xs ys i _ lanes c.loop-words.invariant.rest;
    }

pub returns-clause-goods : goal.returns-clause-goods
returns-clause-goods c = search (rules, words_without)

pub returns-clause-words : goal.returns-clause-words
returns-clause-words c = λ k l. c.loop-k.invariant.done k (omega arith)
