-- `TableCollection::add_unopened`
use Rattle.cats_cmd.proofs.Common.{◌∙◌, refl, IsUnjudged, NotOpened, Only, Some}
use Rattle.cats_cmd.proofs.Tabling.{row_made, table_more}
use Rattle.cats_cmd.proofs.sizes.TableCollection.add_unopened.Goals as goal

pub returns : goal.returns
returns c = (
  λ js h. tt,
  λ js printed attempts has shows. table_more c.args.many.ending js c.args.path.now (IsUnjudged (NotOpened Only c.args.why)) c.push_path.new.text.items printed
      attempts
      (row_made c.args.many.ending c.args.path.now c.in_ok-text.text.items c.push_fault.new.text.items c.push_path.new.text.items
      (IsUnjudged (NotOpened Only c.args.why)) (Some (NotOpened Only c.args.why)) (c.in_ok-text.ensures.items ∙ c.as_bytes.ensures.value)
      c.in_ok-push_fault.ensures refl
      c.in_ok-push_path.ensures) shows,
)
