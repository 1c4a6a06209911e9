-- `lp_text`
use Rattle.analysis.proofs.Common.{◌≡◌, ◌++◌, ℕ, List, ap, ◌∙◌, flat_map, are_sums_exact, lp_rows, row_text}
use Rattle.analysis.proofs.Allocating.RowTexts.{behind, behind_if_none}
use Rattle.analysis.proofs.winners.lp.lp_text.Goals as goal

pub returns : goal.returns
returns c =
    let f = c.args.file.now in
    let rows = lp_rows f in
    let bytes = c.as_slice-rows.result.now in
    let are : bytes ≡ flat_map row_text rows = c.as_slice-rows.ensures.value ∙ c.in_ok-rows.ensures in
    let exact : c.are_sums_exact-exact.result ≡ are_sums_exact f = c.are_sums_exact-exact.ensures in
    let unit = c.in_ok-text.ensures.items ∙ c.as_bytes.ensures.value ∙ (rw exact at c.unit_line.ensures) in
    let heading = behind _ _ _ _ unit c.in_ok-extend_from_slice.ensures.items in
    let prices = behind _ _ _ _ heading (rw exact at c.in_ok-push_prices.ensures) in
    let no_price = behind_if_none rows bytes _ _ _ _ are prices c.in_ok-push_instead.ensures in
    let subject = behind _ _ _ _ no_price c.in_ok-extend_from_slice-2.ensures.items in
    let all_rows = behind _ _ _ _ subject
    (c.in_ok-extend_from_slice-3.ensures.items ∙ ap (λ (text : List ℕ). c.extend_from_slice-2.new.self.items ++ text) are) in
    let no_row = behind_if_none rows bytes _ _ _ _ are all_rows c.in_ok-push_instead-2.ensures in
    let binary = behind _ _ _ _ no_row c.in_ok-extend_from_slice-4.ensures.items in
    let variables = behind _ _ _ _ binary c.in_ok-push_variables.ensures in
    let no_variable = behind_if_none rows bytes _ _ _ _ are variables c.in_ok-push_instead-3.ensures in
    behind _ _ _ _ no_variable c.in_ok-extend_from_slice-5.ensures.items
