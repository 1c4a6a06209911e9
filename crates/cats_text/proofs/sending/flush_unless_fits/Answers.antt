-- `flush_unless_fits`
use Rattle.cats_text.proofs.Common.{arith}
use Rattle.cats_text.proofs.sending.flush_unless_fits.Goals as goal

pub returns-then-len-more-clause-space : goal.returns-then-len-more-clause-space
returns-then-len-more-clause-space g c = omega (arith, c.requires.fits)
