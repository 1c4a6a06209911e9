-- `task_command`
use Rattle.command_line.proofs.Common.{◌≡◌, ◌∙◌, Bool, Some, App, Rule, ap, ap₂, refl, not, codes, new_app, rule_of, with_one}
use Rattle.command_line.proofs.commands.task_command.Goals as goal

-- one argument more
more_by : {new old so_far : App} {rule is_rule : Rule} {has does_have : Bool} → new ≡ with_one old (rule, has) → rule ≡ is_rule → has ≡ does_have → old ≡ so_far
    → new ≡ with_one so_far (is_rule, does_have)
more_by is rule has before = is ∙ ap₂ with_one before (ap₂ (λ (r : Rule) (h : Bool). (r, h)) rule has)

pub returns-clause-shape : goal.returns-clause-shape
returns-clause-shape c =
    let many = c.is_many-many.ensures in
    let bound = ap rule_of c.long.ensures ∙ ap (λ (rule : Rule). record rule { long = Some (codes "bound") }) c.flag-5.ensures.rule in
    let zero = ap rule_of c.short.ensures ∙ ap (λ (rule : Rule). record rule { short = Some 48 }) c.flag-7.ensures.rule in
    let hidden = ap rule_of c.hide.ensures ∙ c.words_from-4.ensures.rule in
    let a1 = more_by c.in_ok-with.ensures.shape c.flag.ensures.rule refl (c.new.ensures.shape ∙ ap new_app c.name_of.ensures) in
    let a2 = more_by c.in_ok-with-2.ensures.shape c.flag-2.ensures.rule refl a1 in
    let a3 = more_by c.in_ok-with-3.ensures.shape c.flag-3.ensures.rule refl a2 in
    let a4 = more_by c.in_ok-with-4.ensures.shape c.times.ensures.rule refl a3 in
    let a5 = more_by c.in_ok-with-5.ensures.shape c.flag-4.ensures.rule refl a4 in
    let a6 = more_by c.in_ok-with-6.ensures.shape bound c.is_always_bounded-bounded.ensures a5 in
    let a7 = more_by c.in_ok-with-7.ensures.shape c.steps.ensures.rule refl a6 in
    let a8 = more_by c.in_ok-with-8.ensures.shape c.total_steps.ensures.rule refl a7 in
    let a9 = more_by c.in_ok-with-9.ensures.shape c.usual_total_steps.ensures.rule c.is_always_bounded-bounded.ensures a8 in
    let a10 = more_by c.in_ok-with-10.ensures.shape c.flag-6.ensures.rule many a9 in
    let a11 = more_by c.in_ok-with-11.ensures.shape zero refl a10 in
    let a12 = more_by c.in_ok-with-12.ensures.shape c.flag-8.ensures.rule refl a11 in
    let a13 = more_by c.in_ok-with-13.ensures.shape c.flag-9.ensures.rule refl a12 in
    let a14 = more_by c.in_ok-with-14.ensures.shape c.option.ensures.rule many a13 in
    let a15 = more_by c.in_ok-with-15.ensures.shape c.option-2.ensures.rule refl a14 in
    let a16 = more_by c.in_ok-with-16.ensures.shape c.folder.ensures.rule refl a15 in
    let a17 = more_by c.in_ok-with-17.ensures.shape c.words_from.ensures.rule many a16 in
    let a18 = more_by c.in_ok-with-18.ensures.shape c.file.ensures.rule (ap not many) a17 in
    let a19 = more_by c.in_ok-with-19.ensures.shape c.second_file.ensures.rule c.is_two.ensures a18 in
    let a20 = more_by c.in_ok-with-20.ensures.shape c.words_from-2.ensures.rule refl a19 in
    let a21 = more_by c.in_ok-with-21.ensures.shape c.words_from-3.ensures.rule refl a20 in
    ap (λ (app : App). app.top) (more_by c.in_ok-draft.ensures.shape hidden c.has_no_other_words.ensures a21)
