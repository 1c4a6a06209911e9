-- `round_bytes`
use Rattle.cats_cmd.proofs.Common.{Err, sym, subst, CanonFault, RoundsText}
use Rattle.cats_cmd.proofs.Rounding.{rounding_refused}
use Rattle.cats_cmd.proofs.round.round_bytes.Goals as goal

pub returns-in-Err : goal.returns-in-Err
returns-in-Err c =
    let Refuses : CanonFault → Type 0 = λ fault. RoundsText c.args.rule c.args.text.now (Err fault) in
    subst Refuses (sym c.from.ensures)
    (rounding_refused Refuses c.args.rule c.args.text.now (λ fault first. first) (λ wants. wants) c.in-Err.fault c.in-Err.ensures)
