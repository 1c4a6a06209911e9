-- `GroupTable::add_file`
use Rattle.cats_cmd.proofs.Common.{refl, ap, TextIndex, PricedGives, PricedRefuses}
use Rattle.cats_cmd.proofs.GroupRows.{adds_priced, table_judged, table_unmade, table_unread}
use Rattle.cats_cmd.proofs.GroupTables.{entry_at}
use Rattle.cats_cmd.proofs.Judging.{refused_auction}
use Rattle.cats_cmd.proofs.duplicates.table.GroupTable.add_file.Goals as goal

pub returns-in-Err : goal.returns-in-Err
returns-in-Err g c =
    let remaining = g.R.Read.remaining in
    rw (c.from-in-Err.ensures, c.from.ensures)
    (adds_priced _ remaining _ _ _ _ _ _ _ _
    (table_unread (PricedGives remaining) (PricedRefuses remaining) c.args.many.options c.args.input.now c.read_file.new.self c.args.many.ending
    c.args.path.now c.in_ok-text-in-Err.text.items c.args.self.now c.in-Err.fault c.in-Err.ensures.memory c.in-Err.ensures.answer
    (rw (c.from-in-Err.ensures, c.from.ensures) at c.in_ok-text-in-Err.ensures)))

pub returns-in-Ok-add : goal.returns-in-Ok-add
returns-in-Ok-add g c =
    let remaining = g.R.Read.remaining in
    adds_priced _ remaining _ _ _ _ _ _ _ _
    (table_judged (PricedGives remaining) (PricedRefuses remaining) c.args.many.options c.args.input.now c.read_file.new.self c.args.many.ending
    c.args.path.now c.in_ok-text-in-Ok-add.text.items c.args.self.now
    (record {
      judged = record { index = c.note.new.self.index; found = c.note.new.self.found };
      heavy = c.args.self.now.heavy;
      count = c.in_ok-self-in-Ok-add.field-0;
    }) c.in-Ok.file c.in-Ok-add.first _ c.in-Ok.ensures.answer (rw c.note.ensures.index c.in-Ok-add.ensures.added) c.in-Ok-add.ensures.within_limits
    c.in_ok-self-in-Ok-add.ensures.notes refl (entry_at c.note.new.self.found.items c.in-Ok-add.first c.get-group.result
    (rw c.deref.ensures.value at c.get-group.ensures.lookup)) c.in_ok-text-in-Ok-add.ensures)

pub returns : goal.returns
returns g c =
    let remaining = g.R.Read.remaining in
    let named = c.in_ok-why-in-Err-add.ensures (refused_auction c.args.many.options c.in-Ok.file c.in-Err-add.fault c.in-Err-add.ensures.refused) in
    rw named
    (adds_priced _ remaining _ _ _ _ _ _ _ _
    (table_unmade (PricedGives remaining) (PricedRefuses remaining) c.args.many.options c.args.input.now c.read_file.new.self c.args.many.ending
    c.args.path.now c.in_ok-text-in-Err-add.text.items c.args.self.now _ c.add_refused.new.self
    (ap (λ (index : TextIndex). record {
      judged = record { index = index; found = c.args.self.now.judged.found };
      heavy = c.args.self.now.heavy;
      count = c.args.self.now.count;
    }) c.in-Err-add.ensures.unchanged)
    c.in-Ok.file c.in-Ok.ensures.answer c.in-Err-add.fault c.in_ok-first-in-Err-add.first _ c.in-Err-add.ensures.refused c.in_ok-first-in-Err-add.ensures
    c.heavy_group-group.ensures (rw named at c.in_ok-text-in-Err-add.ensures)))
