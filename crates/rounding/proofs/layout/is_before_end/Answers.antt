-- `is_before_end`
use Rattle.rounding.proofs.Common.{List, ℕ, ◌+◌, ◌∙◌, ◌&&◌, sym, ap, suc, drop, take_rest, add-one}
use Rattle.rounding.specs.Layouts.{is_remarked_end}
use Rattle.rounding.proofs.layout.is_before_end.Goals as goal

pub returns-then-is_blank : goal.returns-then-is_blank
returns-then-is_blank c =
    let line : List ℕ = c.args.line.now in
    let offset : ℕ = c.args.offset in
    c.is_remarked_end.ensures ∙ ap is_remarked_end (take_rest line (offset + 1) ∙ ap (λ n. drop n line) (add-one offset))
    ∙ ap (λ v. v && is_remarked_end (drop (suc offset) line)) (sym c.if-is_blank.true ∙ c.is_blank.ensures)
