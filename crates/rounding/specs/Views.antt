-- Rounded prices, wherever their words lie in memory.
use Rattle.std.specs.Prelude.{List, map}
use Rattle.rounding.specs.Texts.{PlainRoundedPrice}
use Rattle.rounding.specs.declared.text.RoundedPrice.{RoundedPrice}

-- a rounded price of the code as a value
abbrev pub plain_change : RoundedPrice → PlainRoundedPrice
plain_change p = record { line = p.line; word = p.word.items; price = p.price }

-- rounded prices of the code as values
abbrev pub plain_changes : List RoundedPrice → List PlainRoundedPrice
plain_changes ps = map plain_change ps
