-- `split_word`
use Rattle.cats_text.proofs.Common.{rules, ◌≡◌, ℕ, List, not, Some, ap, ◌∙◌, sym, length, take, drop, refl, subst, ◌-◌, position, unwrap_or, take_rest}
use Rattle.cats_text.proofs.Common.{position-Some, is_blank, IsFirstWord}
use Rattle.cats_text.proofs.Texts.FirstWords.{IsFound, found_at, first_word, no_word}
use Rattle.cats_text.proofs.fault_place.split_word.Goals as goal

pub returns-in_default : goal.returns-in_default
returns-in_default c = no_word c.args.line.now (length c.args.line.now) (found_at (λ b. not (is_blank b)) c.args.line.now (length c.args.line.now)
    (search rules)) refl

pub returns : goal.returns
returns c =
    let line : List ℕ = c.args.line.now in
    let start : ℕ = c.in-Some.start in
    let end : ℕ = c.unwrap_or-end.result in
    let is : position (λ b. not (is_blank b)) line ≡ Some start = sym c.first_letter.ensures ∙ c.in-Some.is in
    let rest : take (length line - start) (drop start line) ≡ drop start line = take_rest line start in
    let letters : IsFound is_blank (drop start line) end = subst (λ xs. IsFound is_blank xs end) rest
    (found_at is_blank (take (length line - start) (drop start line)) end (c.unwrap_or-end.ensures
    ∙ ap (λ o. unwrap_or o (length (take (length line - start) (drop start line)))) c.first_blank.ensures)) in
    let blanks : IsFound (λ b. not (is_blank b)) line start = found_at (λ b. not (is_blank b)) line start (ap (λ o. unwrap_or o (length line)) (sym is)) in
    let some = position-Some (λ b. not (is_blank b)) line start 0 is in
    subst (λ xs. IsFirstWord line (take end xs) (take (length xs - end) (drop end xs))) (sym rest)
    (subst (λ xs. IsFirstWord line (take end (drop start line)) xs) (sym (take_rest (drop start line) end)) (first_word line start end blanks some.0 letters))
