-- `Publisher::judge`
use Rattle.cats_cmd.proofs.Common.{◌∙◌, ℕ, List, PlainFile, AddsText, ap, judged_files, length, refl, subst}
use Rattle.cats_cmd.proofs.FirstAuctions.{number_is_first}
use Rattle.cats_cmd.proofs.PublishingFiles.{finds_judged, keeps_judged}
use Rattle.cats_text.specs.Layout.{layout}
use Rattle.cats_cmd.proofs.publish.Publisher.judge.Goals as goal

pub returns : goal.returns
returns c =
    let normal = c.in-Ok.ensures.answer in
    let old = c.args.self.now in
    let file = c.args.file.now in
    let number = c.in_ok-first.first in
    let text = c.in_ok-text.ensures.layout ∙ ap layout normal.canonical in
    let added = subst (λ (t : List ℕ). AddsText old.index c.add_text.new.self t number) (c.as_slice.ensures.value ∙ text) c.in_ok-first.ensures.added in
    record {
      within = normal.within_limit;
      text = text;
      kept = c.len-kept.ensures ∙ ap (λ (f : PlainFile). length f.bids) normal.canonical;
      finds = λ js h. finds_judged old js file number _ h (number_is_first old.index c.add_text.new.self number
          (judged_files js) file c.requires h.is_index added)
          c.in_ok-same_as.ensures;
      keeps = λ js publishing h. keeps_judged old _ js c.args.path.now c.in_ok-from_slice.field-0 file publishing number c.requires added
          c.in_ok-push.ensures.items c.in_ok-from_slice.ensures.items h;
      count = refl;
    }
