-- `number_text`
use Rattle.canon.proofs.Common.{rules, ◌≡◌, ℕ, List, cond, bytes_eq, Some, subst, number_of, updated, Vec, Global}
use Rattle.canon.proofs.auction_index.number_text.Goals as goal

pub returns-clause-placed : goal.returns-clause-placed
returns-clause-placed c =
    subst (λ (text : List ℕ). (other : List ℕ) → number_of c.insert.new.self other ≡ cond (bytes_eq text other) (Some c.args.number)
    (number_of c.args.numbers.now other)) c.shrink_to_fit.ensures.items
    (updated (λ (key : Vec ℕ Global). key.items) c.args.numbers.now c.insert.new.self c.shrink_to_fit.new.self.items c.args.number
    c.in_ok-insert.ensures.updates)

pub returns-in-Some-clause-answer : goal.returns-in-Some-clause-answer
returns-in-Some-clause-answer c = search rules

pub returns-in-Some-clause-placed : goal.returns-in-Some-clause-placed
returns-in-Some-clause-placed c = search rules
