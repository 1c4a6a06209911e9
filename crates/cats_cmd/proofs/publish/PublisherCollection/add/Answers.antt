-- `PublisherCollection::add`
use Rattle.cats_cmd.proofs.Common.{◌∙◌, [], refl, IsUnjudged, PricedGives, PricedRefuses}
use Rattle.cats_cmd.proofs.PublishingFiles.{opened_of_file, read_row_made}
use Rattle.cats_cmd.proofs.Storing.{wrote_nothing}
use Rattle.commands.proofs.Judging.{judged_unread}
use Rattle.std.proofs.lemmas.Result.{IfOk-weaker}
use Rattle.cats_cmd.specs.Internal.Publishing.{plain_row}
use Rattle.cats_cmd.proofs.publish.PublisherCollection.add.Goals as goal

pub returns-in-Ok-clause-adds : goal.returns-in-Ok-clause-adds
returns-in-Ok-clause-adds g c =
    let file = c.in-Ok.file in
    let path = c.args.path.now in
    let rounded = c.rounded-rounded.result in
    IfOk-weaker c.add_file.result _ _
    (λ added a. opened_of_file g.S.Stream.Read.remaining c.args.many _ path c.args.self.now _ c.args.input.now c.read_file.new.self file rounded
    c.in-Ok.ensures.answer c.rounded-rounded.ensures added.fault added.text.items a)
    (c.add_file.ensures.adds path rounded
    (read_row_made (plain_row c.unread.result) path file rounded c.from.result c.len.result c.unread.ensures
    (c.from.ensures ∙ c.goods.ensures.value) c.len.ensures))

pub returns-in_ok-text-in-Err-clause-adds : goal.returns-in_ok-text-in-Err-clause-adds
returns-in_ok-text-in-Err-clause-adds g c =
    let remaining = g.S.Stream.Read.remaining in
    let why = c.from-in-Err-2.result in
    let added = c.in_ok-text-in-Err.ensures c.args.many why refl in
    record {
      stream = record {
        judgement = IsUnjudged why;
        judges = rw (c.from-in-Err-2.ensures, c.from-in-Err.ensures) (judged_unread (PricedGives remaining) (PricedRefuses remaining) c.args.many.options
            c.args.input.now c.read_file.new.self c.in-Err.fault c.in-Err.ensures.memory c.in-Err.ensures.answer);
        adds = added.0;
        is_fault = refl;
      };
      more = [];
      wrote = wrote_nothing _;
      shows = added.1;
    }
