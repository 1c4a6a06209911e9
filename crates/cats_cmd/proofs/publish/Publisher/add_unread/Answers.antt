-- `Publisher::add_unread`
use Rattle.cats_cmd.proofs.Common.{◌∙◌, ap₂, refl, [], IsUnjudged}
use Rattle.std.proofs.lemmas.Result.{IfOk-weaker}
use Rattle.cats_cmd.proofs.PublishingFiles.{keeps_skipped, published_more}
use Rattle.cats_cmd.specs.Internal.Publishing.{folder_of, places_of, row_line}
use Rattle.cats_cmd.proofs.publish.Publisher.add_unread.Goals as goal

pub returns : goal.returns
returns c many why is =
    let path = c.args.path.now in
    IfOk-weaker c.line.result _ _
    (λ line row. (
      (λ js h. rw c.in_ok-count_file.ensures (keeps_skipped c.args.self.now js path (IsUnjudged why) refl refl h)),
      (λ js printed attempts has shows. published_more (folder_of many.target) many.all (places_of many.target) js path (IsUnjudged why) line.items printed []
          attempts (row ∙ ap₂ row_line c.unread.ensures is) refl tt shows),
    )) c.line.ensures
