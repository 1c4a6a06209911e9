-- `mend`
use Rattle.rounding.proofs.Common.{rules, ◌≡◌, ◌∙◌, false, sym, ap}
use Rattle.rounding.proofs.Layouts.{needless_text, needless_mends}
use Rattle.rounding.specs.Layouts.{has_mends}
use Rattle.rounding.proofs.mend.mend.Goals as goal

pub returns-then-not-has_mends : goal.returns-then-not-has_mends
returns-then-not-has_mends c =
    let none : has_mends c.args.text.items ≡ false = search rules in
    record { text_is = sym (needless_text c.args.text.items none); mends_are = c.new.ensures.items ∙ sym (needless_mends c.args.text.items none) }
