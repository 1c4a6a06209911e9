-- `options`
use Rattle.command_line.proofs.Common.{refl}
use Rattle.clap.proofs.OnLiterals.{clap_on_literals}
use Rattle.command_line.proofs.Lines.{each}
use Rattle.command_line.proofs.laws.options.Goals as goal

pub returns : goal.returns
unfolding clap_on_literals
returns c = (
  each _ _ _ (λ program first second. refl),
  each _ _ _ (λ program first second. refl),
  each _ _ _ (λ program first second. refl),
  each _ _ _ (λ program first second. refl),
  each _ _ _ (λ program first second. refl),
  each _ _ _ (λ program first second. refl),
  each _ _ _ (λ program first second. refl),
  each _ _ _ (λ program first second. refl),
  each _ _ _ (λ program first second. refl),
  each _ _ _ (λ program first second. refl),
  λ list. each _ _ _ (λ program first second. refl),
)
