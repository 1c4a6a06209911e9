-- `open`
use Rattle.std.proofs.Common.{ap}
use Rattle.std.proofs.lemmas.Option.{get_or_from_slice_get}
use Rattle.cats_c.proofs.Texts.{nobody}
use Rattle.cats_c.proofs.call.texts.TextsSource.open.Goals as goal

pub returns-clause-opened : goal.returns-clause-opened
returns-clause-opened c =
    let named = rw c.as_bytes.ensures.value at c.in-Some.ensures in
    record {
      number = c.in-Some.number;
      named = named;
      is = ap (λ text. text.bytes) (get_or_from_slice_get c.args.self.now.texts.now c.in-Some.number named.text nobody named.there);
    }
