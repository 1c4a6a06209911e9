-- `next_bit`
use Rattle.goods_set.proofs.Common.{rules, length, sym}
use Rattle.goods_set.proofs.Scans.{scan_begun, scan_ended, scan_outside, scan_found}
use Rattle.goods_set.proofs.word_set.scans.next_bit.Goals as goal

pub returns-then-index-words : goal.returns-then-index-words
returns-then-index-words c = let ws = c.args.words.now in sym (scan_outside (length ws) ws c.args.from c.if-index-words.true)

pub loop-rest-init : goal.loop-rest-init
loop-rest-init c = search (rules, scan_begun)

pub returns-then-index-words-2 : goal.returns-then-index-words-2
returns-then-index-words-2 c =
    let ws = c.args.words.now in
    sym (scan_ended (length ws) ws c.args.from c.loop-rest.index c.loop-rest.rest c.loop-rest.invariant.scan c.loop-rest-test.true c.if-index-words-2.true)

pub returns : goal.returns
returns c =
    let ws = c.args.words.now in
    sym (scan_found (length ws) ws c.args.from c.loop-rest.index c.loop-rest.rest c.loop-rest.invariant.scan c.loop-rest-test.false
    c.loop-rest.invariant.within)
