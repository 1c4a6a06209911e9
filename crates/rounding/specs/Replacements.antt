-- What is written in place of a price.
use Rattle.std.specs.Prelude.{ℕ, ◌*◌, ◌/◌, ◌%◌, ◌==◌, ◌&&◌, nat_lt, Bool, not, is_none, if◌then◌else◌, codes}
use Rattle.cats_text.specs.Lines.{Word}
use Rattle.cats_text.specs.Faults.{price_word}
use Rattle.cats_text.specs.Layout.{price_text}
use Rattle.bid_file.specs.declared.limits.TheConstants.{MAX_PRICE}
use Rattle.rounding.specs.Decimals.{is_decimal, top, bottom}
use Rattle.rounding.specs.Nearest.{nearest}
use Rattle.rounding.specs.declared.replacement.FinePrices.{FinePrices}
use Rattle.rounding.specs.declared.replacement.FinePrices.TheVariants.{Round, Refuse}
use Rattle.rounding.specs.declared.replacement.PriceRule.{PriceRule}
use Rattle.rounding.specs.declared.replacement.Replacement.{Replacement}
use Rattle.rounding.specs.declared.replacement.Replacement.TheVariants.{Itself, Exact, Rounded, TooLarge, TooFine}

-- what becomes of fine prices, and by which power of ten all are multiplied
abbrev pub price_rule : FinePrices → ℕ → PriceRule
price_rule fine tens = record { fine = fine; tens = tens }

-- what replaces a value: a price, or a refusal as too large or too fine
abbrev pub replacement_of : FinePrices → ℕ → ℕ → Replacement
replacement_of Round n d = if nat_lt MAX_PRICE (nearest n d) then TooLarge
    else (if n % d == 0 then Exact (n / d) else Rounded (nearest n d))
replacement_of Refuse n d = if nat_lt (MAX_PRICE * d) n then TooLarge
    else (if n % d == 0 then Exact (n / d) else TooFine)

-- whether a word is a price that stays as it is: it is valid, and prices are not multiplied
abbrev pub is_kept : PriceRule → Word → Bool
is_kept rule w = (rule.tens == 0) && is_none (price_word w)

-- what replaces a word: itself, if it is kept or no decimal, else what replaces its value times the rule's power of ten
abbrev pub replacement : PriceRule → Word → Replacement
replacement rule w = if is_kept rule w then Itself
    else (if not (is_decimal w) then Itself else replacement_of rule.fine (top rule.tens w) (bottom rule.tens w))

-- the bytes of a replacement; those of the last two are refused when they are read
abbrev pub replacement_text : Word → Replacement → Word
replacement_text w Itself = w
replacement_text w (Exact millionths) = price_text millionths
replacement_text w (Rounded millionths) = price_text millionths
replacement_text w TooLarge = codes "1000000000001"
replacement_text w TooFine = codes "0.0000001"

-- the bytes that replace a word; of a refusal, a word that reading refuses alike
abbrev pub rounded_word : PriceRule → Word → Word
rounded_word rule w = replacement_text w (replacement rule w)
