-- `Publisher::add_file`
use Rattle.cats_cmd.proofs.Common.{◌∙◌, ap, sym}
use Rattle.cats_cmd.specs.Internal.Publishing.{plain_row, judged_row}
use Rattle.std.proofs.lemmas.Result.{IfOk-weaker}
use Rattle.cats_cmd.proofs.PublishingFiles.{refused_added, unwanted_added, wanted_added}
use Rattle.cats_cmd.proofs.Storing.{wrote_nothing}
use Rattle.cats_cmd.proofs.publish.Publisher.add_file.Goals as goal

pub returns-in-Err-clause-adds : goal.returns-in-Err-clause-adds
returns-in-Err-clause-adds g c path rounded is =
    let old = c.args.self.now in
    let refused = rw (c.in-Err.is, c.in_ok-count_file.ensures) at c.in_ok-published.ensures in
    IfOk-weaker c.refuse.result _ _
    (λ added h. rw h.0 (refused_added c.args.many _ path old c.judge.new.self c.args.file.now rounded (plain_row c.args.read) is c.in-Err.fault refused
    added.text.items h.1 (wrote_nothing _)))
    c.refuse.ensures

pub returns-then-not-is_wanted-clause-adds : goal.returns-then-not-is_wanted-clause-adds
returns-then-not-is_wanted-clause-adds g c path rounded is =
    let j = rw (c.in-Ok.is, c.in_ok-count_file.ensures) at c.in_ok-published.ensures in
    unwanted_added c.args.many _ path c.args.self.now c.judge.new.self c.args.file.now rounded (plain_row c.args.read) is c.in-Ok.published j _
    (ap (judged_row (plain_row c.args.read) c.in-Ok.published.kept) c.same_as.ensures) (sym c.is_wanted.ensures ∙ c.if-not-is_wanted.true)
    c.in_ok-text.text.items c.in_ok-text.ensures (wrote_nothing _)

pub returns-clause-adds : goal.returns-clause-adds
returns-clause-adds g c path rounded is =
    let old = c.args.self.now in
    let j = rw (c.in-Ok.is, c.in_ok-count_file.ensures) at c.in_ok-published.ensures in
    IfOk-weaker c.publish_text.result _ _
    (λ added h. wanted_added c.args.many _ path old c.judge.new.self c.args.file.now rounded (plain_row c.args.read) is c.in-Ok.published j _
    (ap (judged_row (plain_row c.args.read) c.in-Ok.published.kept) c.same_as.ensures) (sym c.is_wanted.ensures ∙ c.if-not-is_wanted.false)
    added.fault _ added.text.items (c.as_slice.ensures.value ∙ j.text) h)
    c.publish_text.ensures.writes
