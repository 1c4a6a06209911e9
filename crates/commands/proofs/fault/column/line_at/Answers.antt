-- `line_at`
use Rattle.commands.proofs.Common.{◌≡◌, ◌∙◌, ◌==◌, ℕ, List, [], Option, rules, refl}
use Rattle.std.proofs.Common.{tests}
use Rattle.std.proofs.lemmas.Iterator.Consumers.{nth_from_yields_List}
use Rattle.std.proofs.lemmas.Iterator.Splits.{YieldsList-from_slice_split}
use Rattle.std.specs.Borrow.{Bor}
use Rattle.std.specs.List.{slice_get, slice_split}
use Rattle.std.specs.Prelude.{◌-◌, option_map, unwrap_or}
use Rattle.std.specs.Str.Lines.{strip_carriage_return}
use Rattle.commands.specs.Columns.{line_at}
use Rattle.commands.proofs.fault.column.line_at.Goals as goal

found_at : (number index : ℕ) (text : List ℕ) (found : Option (Bor (List ℕ)))
    → option_map (λ line. line.now) found ≡ slice_get (slice_split (λ b. b == 10) text) index → index ≡ number - 1
    → strip_carriage_return (unwrap_or (option_map (λ line. line.now) found) []) ≡ line_at number text
found_at number index text found is same = rw (is, same) refl

pub returns-in-Some : goal.returns-in-Some
returns-in-Some c =
    let text = c.args.text.now in
    let all = YieldsList-from_slice_split _ _ text c.split.ensures.rest c.split.ensures.done c.split.ensures.closure (λ x b q k. search (rules, tests)) in
    let found = nth_from_yields_List c.nth.result c.nth.new.self _ c.nth.ensures.ran all in
    c.without_return.ensures ∙ rw c.in-Some.is at (found_at c.args.number _ text c.nth.result found c.saturating_sub-index.ensures)

pub returns-in-None : goal.returns-in-None
returns-in-None c =
    let text = c.args.text.now in
    let all = YieldsList-from_slice_split _ _ text c.split.ensures.rest c.split.ensures.done c.split.ensures.closure (λ x b q k. search (rules, tests)) in
    let found = nth_from_yields_List c.nth.result c.nth.new.self _ c.nth.ensures.ran all in
    rw c.in-None.is at (found_at c.args.number _ text c.nth.result found c.saturating_sub-index.ensures)
