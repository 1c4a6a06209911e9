-- `carry_out_on_one`
use Rattle.cats_cmd.proofs.Common.{inl}
use Rattle.cats_cmd.proofs.carrying_out.carry_out_on_one.Goals as goal

pub returns-in_ok-input-in-Round-clause-carries : goal.returns-in_ok-input-in-Round-clause-carries
returns-in_ok-input-in-Round-clause-carries g c =
    rw c.in-Round.is (inl (record {
      before = c.in_ok-input-in-Round.input;
      after = c.run_round.new.input;
      opened = c.in_ok-input-in-Round.ensures.opened;
      runs = rw c.unwrap_or-rule.ensures at c.run_round.ensures;
    }))
