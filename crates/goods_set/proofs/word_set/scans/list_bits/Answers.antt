-- `list_bits`
use Rattle.goods_set.proofs.Common.{refl}
use Rattle.goods_set.proofs.Listed.{bits_more, bits_all, fewer_bits}
use Rattle.goods_set.proofs.word_set.scans.list_bits.Goals as goal

pub loop-rest-smaller : goal.loop-rest-smaller
loop-rest-smaller c = fewer_bits c.loop-rest.rest _ c.loop-rest-test.true c.loop-rest.auto.rest-fits.fits refl

pub loop-rest-preserved : goal.loop-rest-preserved
loop-rest-preserved c =
    bits_more c.loop-rest.rest _ c.args.first c.loop-rest.out.items c.push.new.self.items _ c.loop-rest-test.true c.loop-rest.auto.rest-fits.fits refl
    c.in_ok-push.ensures.items c.loop-rest.invariant

pub returns : goal.returns
returns c = bits_all c.args.first c.loop-rest.out.items _ c.loop-rest.rest c.loop-rest-test.false c.loop-rest.invariant
