-- `limits`
use Rattle.command_line.proofs.Common.{refl}
use Rattle.clap.proofs.OnLiterals.{clap_on_literals}
use Rattle.command_line.proofs.Lines.{each_limited, each_unbounded}
use Rattle.command_line.proofs.laws.limits.Goals as goal

pub returns-clause-steps : goal.returns-clause-steps
unfolding clap_on_literals
returns-clause-steps c text taken = each_limited _ _ 1000000000 text _ taken (λ program first second. refl)

pub returns-clause-total : goal.returns-clause-total
unfolding clap_on_literals
returns-clause-total c text taken = each_limited _ _ 1000000000000 text _ taken (λ program first second. refl)

pub returns-clause-always_bounded : goal.returns-clause-always_bounded
unfolding clap_on_literals
returns-clause-always_bounded c text taken = each_limited _ _ 1000000000000 text _ taken (λ program first second. refl)

pub returns-clause-plain : goal.returns-clause-plain
unfolding clap_on_literals
returns-clause-plain c text = each_unbounded _ _ 1000000000000 text (λ program first second. refl)
