-- `Partners::take`
use Rattle.analysis.proofs.Common.{refl}
use Rattle.analysis.proofs.Comparing.Partnering.{one_waits_less, set_waits, unset_waits}
use Rattle.analysis.proofs.differences.partners.Partners.take.Goals as goal

pub returns-in-Some-clause-partners : goal.returns-in-Some-clause-partners
returns-in-Some-clause-partners c = λ right waiting are.
    one_waits_less right waiting c.args.self.now _ c.args.index refl refl (set_waits c.args.self.now.waits.items c.args.index c.in-Some.ensures.item.3.0) are

pub returns-in_default-clause-partners : goal.returns-in_default-clause-partners
returns-in_default-clause-partners c = λ right waiting are.
    one_waits_less right waiting c.args.self.now _ c.args.index refl refl (unset_waits c.args.self.now.waits.items c.args.index c.in_default.ensures.item.3) are
