-- `next_word`
use Rattle.cats_text.proofs.Common.{rules, ◌-◌, List, ℕ, sym, subst, take, take_rest}
use Rattle.cats_text.specs.Internal.Places.{IsNextWord}
use Rattle.cats_text.proofs.Texts.FirstWords.{token_word}
use Rattle.cats_text.proofs.fault_place.next_word.Goals as goal

pub returns-then-is_blank : goal.returns-then-is_blank
returns-then-is_blank c =
    let line = c.args.line.now in
    let taken = c.in-Some.taken in
    subst (λ (behind : List ℕ). IsNextWord line (take (taken - 1) line) behind c.in-Some.word) (sym (take_rest line taken))
    (token_word line c.in-Some.word taken c.in-Some.ensures (search rules))
