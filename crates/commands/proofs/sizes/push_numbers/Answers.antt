-- `push_numbers`
use Rattle.commands.proofs.Sizing.{numbers_heavy, numbers_within, numbers_unmade, numbers_unread, sizes_put}
use Rattle.commands.proofs.sizes.push_numbers.Goals as goal

pub returns-in-Err : goal.returns-in-Err
returns-in-Err g c =
    rw (c.from-in-Err.ensures, c.from.ensures)
    (numbers_unread _ _ _ _ _ _ _ (rw (c.in_ok-extend_from_slice-in-Err.ensures.items, c.as_bytes.ensures.value)) c.in-Err.fault c.in-Err.ensures.memory
    c.in-Err.ensures.answer)

pub returns-in-Ok-named_normal_file : goal.returns-in-Ok-named_normal_file
returns-in-Ok-named_normal_file g c =
    let normal = c.in-Ok-named_normal_file.ensures.answer in
    numbers_within _ _ _ _ _ _ _
    c.in-Ok.file c.in-Ok.ensures.answer normal.within_limit
    (rw (
      c.in_ok-push_counts-in-Ok-named_normal_file.ensures,
      normal.canonical,
      sizes_put _ _ _ _ _ _ c.new-sizes.ensures.items c.in_ok-push_sizes.ensures c.as_slice.ensures.value
          c.in_ok-extend_from_slice-in-Ok-named_normal_file.ensures.items,
    ))

pub returns-in-Err-StepLimit : goal.returns-in-Err-StepLimit
returns-in-Err-StepLimit g c =
    numbers_heavy _ _ _ _ _ _ _
    c.in-Ok.file c.in-Ok.ensures.answer c.in-Err-StepLimit.goods
    (rw c.in-Err-StepLimit.field-0-is at c.in-Err-StepLimit.ensures.answer)
    (rw (
      c.in_ok-extend_from_slice-in-Err-StepLimit-2.ensures.items,
      c.as_bytes-in-Err-StepLimit.ensures.value,
      sizes_put _ _ _ _ _ _ c.new-sizes.ensures.items c.in_ok-push_sizes.ensures c.as_slice-in-Err-StepLimit.ensures.value
          c.in_ok-extend_from_slice-in-Err-StepLimit.ensures.items,
    ))
    _ (c.in_ok-why-in-Err-StepLimit.ensures (rw c.in-Err-StepLimit.field-0-is at c.in-Err-StepLimit.ensures.answer))

pub returns : goal.returns
returns g c =
    rw c.from-in-Err-named_normal_file.ensures
    (numbers_unmade _ _ _ _ _ _ _
    c.in-Ok.file c.in-Ok.ensures.answer
    (rw (c.in_ok-extend_from_slice-in-Err-named_normal_file.ensures.items, c.as_bytes-in-Err-named_normal_file.ensures.value)))
