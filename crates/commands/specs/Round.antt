-- What `cats round` reports of a price whose value changed.
use Rattle.std.specs.Prelude.{ℕ, List, ◌++◌, codes, decimal}
use Rattle.cats_text.specs.Layout.{price_text}
use Rattle.rounding.specs.Texts.{PlainRoundedPrice}

-- the line on a price whose value changed
abbrev pub rounded_line : PlainRoundedPrice → List ℕ
rounded_line change = codes "line " ++ decimal change.line ++ codes ": " ++ change.word ++ codes " rounded to "
    ++ price_text change.price ++ codes "\n"
