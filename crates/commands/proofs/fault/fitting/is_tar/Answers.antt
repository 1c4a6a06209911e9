-- `is_tar`
use Rattle.commands.proofs.Common.{◌≡◌, ◌<◌, ℕ, List, [], ◌∷◌, length, take, arith, lt-ltb}
use Rattle.std.proofs.lemmas.List.{length-drop, take_all}
use Rattle.std.specs.List.{starts_with}
use Rattle.std.specs.Prelude.{◌-◌, ◌&&◌, Bool, drop, nat_eq, nat_lt}
use Rattle.commands.proofs.fault.fitting.is_tar.Goals as goal

-- a rest of a slice goes to its end
to_end : (n : ℕ) (word : List ℕ) → take (length word - n) (drop n word) ≡ drop n word
to_end n word = take_all (length word - n) (drop n word) (omega (arith, length-drop n word))

-- of a word that is longer the test is that of its rest
of_longer : (word text : List ℕ) (result : Bool) → 99 < length word
    → result ≡ starts_with nat_eq (take (length word - 99) (drop 99 word)) text
    → result ≡ (nat_lt 99 (length word) && starts_with nat_eq (drop 99 word) text)
of_longer word text result more is = let rest = to_end 99 word in rw (lt-ltb 99 (length word) more) (rw rest at is)

pub returns-then-word-gt99 : goal.returns-then-word-gt99
returns-then-word-gt99 c =
    of_longer c.args.word.now (0 ∷ 48 ∷ 48 ∷ 48 ∷ []) c.starts_with.result c.if-word-gt99.true c.starts_with.ensures.value
