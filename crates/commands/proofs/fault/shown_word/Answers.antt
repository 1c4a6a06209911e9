-- `shown_word`
use Rattle.commands.proofs.Common.{◌≡◌, ℕ, List, length, min, arith, take_min}
use Rattle.commands.proofs.fault.shown_word.Goals as goal

pub returns : goal.returns
returns c =
    let text : List ℕ = c.args.place.now.text.now in
    let is : c.min.result ≡ min 60 (length text) = omega (arith, c.min.ensures) in
    rw is (take_min 60 text)
