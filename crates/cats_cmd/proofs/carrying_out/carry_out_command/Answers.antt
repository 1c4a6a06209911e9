-- `carry_out_command`
use Rattle.cats_cmd.proofs.Common.{[], ◌∷◌, inl, refl, List, ℕ, NoFolder, RunsAt, outcome_of, plain_request}
use Rattle.cats_cmd.proofs.CarryingOut.{carried_on_list}
use Rattle.cats_cmd.proofs.Opening.{opens_then}
use Rattle.cats_cmd.proofs.carrying_out.carry_out_command.Goals as goal

pub returns-in-Ok-clause-carries : goal.returns-in-Ok-clause-carries
returns-in-Ok-clause-carries g c =
    let request = plain_request c.args.request.now in
    carried_on_list _ _ _ _
    (λ (bids : List ℕ). RunsAt (g.S.Source.may_open (g.S.Source.content_of c.args.source.now)) g.S.Stream.Read.remaining g.W.Write.contents
    g.E.Write.contents c.args.file.now request.prices (outcome_of request bids))
    _ c.in-Some.list.now _ _ c.in-Ok.ensures.read _ _ _ _ _ _ (rw c.in-Some.is refl)
    (rw (c.as_slice-in-Ok.ensures.value, c.in-Ok.ensures.opens.stays) at c.run_at-in-Ok.ensures.runs)

pub returns-in-Ok-clause-opens : goal.returns-in-Ok-clause-opens
returns-in-Ok-clause-opens g c =
    rw c.in-Some.is (inl (opens_then _ _ _ _ _ ((c.in-Some.list.now, NoFolder) ∷ []) ((c.args.file.now, _) ∷ []) c.in-Ok.ensures.opens
    c.run_at-in-Ok.ensures.opens))
