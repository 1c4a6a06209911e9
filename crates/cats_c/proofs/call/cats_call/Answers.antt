-- `cats_call`
use Rattle.std.proofs.Common.{◌∙◌, ap, inl, sym}
use Rattle.cats_c.proofs.call.cats_call.Goals as goal

pub returns : goal.returns
returns c = inl (record {
  text = c.into_inner.result.items;
  report = c.into_inner-2.result.items;
  prints = record {
    out = c.new-printed.result;
    out_after = c.answer-status.new.out;
    err = c.new-reported.result;
    err_after = c.answer-status.new.err;
    empty = (
      ap (λ printed. printed.items) c.new-printed.ensures.inner ∙ c.new.ensures.items,
      ap (λ printed. printed.items) c.new-reported.ensures.inner ∙ c.new-2.ensures.items,
    );
    works = (sym c.failed.ensures ∙ c.if-failed.false, sym c.failed-else-failed.ensures ∙ c.if-failed-2.false);
    answers = c.answer-status.ensures;
    is_text = ap (λ printed. printed.items) c.into_inner.ensures;
    is_report = ap (λ printed. printed.items) c.into_inner-2.ensures;
  };
  puts = rw c.as_slice.ensures.value at c.put_front.ensures;
  puts_report = rw c.as_slice-2.ensures.value at c.put_front-2.ensures;
})
