-- `line_feed`
use Rattle.cats_text.proofs.Common.{◌≡◌, ◌+◌, ◌∙◌, eqb, ap, sym, rules, drop, position, option_map, Some, None}
use Rattle.cats_text.proofs.Scanning.ManyBytes.{position_behind, rest_is}
use Rattle.cats_text.proofs.scanner.line_feed.Goals as goal

pub returns-in_err-place : goal.returns-in_err-place
returns-in_err-place c =
    let start = c.groups_without_line_feed-start.result in
    let none : position (λ b. eqb b 10) (drop start c.args.bytes.now) ≡ None = search (rules, rest_is) in
    let all = position_behind (λ b. eqb b 10) c.args.bytes.now start c.groups_without_line_feed-start.ensures.bound
    c.groups_without_line_feed-start.ensures.none
    ∙ ap (option_map (λ i. start + i)) none in
    search (rules, all)

pub returns : goal.returns
returns c =
    let start = c.groups_without_line_feed-start.result in
    let found : position (λ b. eqb b 10) (drop start c.args.bytes.now) ≡ Some c.in_ok-place.place = search (rules, rest_is) in
    sym (position_behind (λ b. eqb b 10) c.args.bytes.now start c.groups_without_line_feed-start.ensures.bound c.groups_without_line_feed-start.ensures.none
    ∙ ap (option_map (λ i. start + i)) found)
