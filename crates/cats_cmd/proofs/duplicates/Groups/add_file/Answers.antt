-- `Groups::add_file`
use Rattle.cats_cmd.proofs.Common.{refl, rules, ap, TextIndex, PricedGives, PricedRefuses}
use Rattle.cats_cmd.proofs.Judging.{adds_priced, groups_judged, groups_unmade, groups_unread, refused_auction}
use Rattle.cats_cmd.proofs.duplicates.Groups.add_file.Goals as goal

pub returns-in-Ok-add : goal.returns-in-Ok-add
returns-in-Ok-add g c =
    let remaining = g.R.Read.remaining in
    adds_priced _ remaining _ _ _ _ _ _ _
    (groups_judged (PricedGives remaining) (PricedRefuses remaining) c.args.options c.args.input.now c.read_file.new.self c.args.self.now _
    c.args.path.now c.in_ok-path-in-Ok-add.path c.in-Ok-add.number c.in_ok-path-in-Ok-add.ensures.items refl c.in-Ok.file (search rules)
    c.in-Ok.ensures.answer c.in-Ok-add.ensures.added c.in-Ok-add.ensures.within_limits c.in_ok-push-in-Ok-add.ensures.items)

pub returns : goal.returns
returns g c =
    let remaining = g.R.Read.remaining in
    rw (c.in_ok-why-in-Err-add.ensures (refused_auction c.args.options c.in-Ok.file c.in-Err-add.fault c.in-Err-add.ensures.refused))
    (adds_priced _ remaining _ _ _ _ _ _ _
    (groups_unmade (PricedGives remaining) (PricedRefuses remaining) c.args.options c.args.input.now c.read_file.new.self c.args.self.now _ _
    c.args.path.now
    (ap (λ (index : TextIndex). record { judged = record { index = index; found = c.args.self.now.judged.found }; heavy = c.args.self.now.heavy })
    c.in-Err-add.ensures.unchanged)
    c.in-Ok.file c.in-Ok.ensures.answer c.in-Err-add.fault c.in-Err-add.ensures.refused c.in_ok-add_refused-in-Err-add.ensures))

pub returns-in-Err : goal.returns-in-Err
returns-in-Err g c =
    let remaining = g.R.Read.remaining in
    rw (c.from-in-Err.ensures, c.from.ensures)
    (adds_priced _ remaining _ _ _ _ _ _ _
    (groups_unread (PricedGives remaining) (PricedRefuses remaining) c.args.options c.args.input.now c.read_file.new.self c.args.self.now
    c.args.path.now c.in-Err.fault c.in-Err.ensures.memory c.in-Err.ensures.answer))
