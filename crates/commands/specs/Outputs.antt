-- Lists of goods, and the cells of tables.
use Rattle.std.specs.Prelude.{ℕ, List, [], ◌∷◌, ◌++◌, Option, Some, None, decimal}
use Rattle.std.specs.List.{flat_map}
use Rattle.cats_text.specs.Layout.{price_text}

-- a list with this byte between each two, by the text of each
abbrev pub list_text : {A : Type 0} → ℕ → (A → List ℕ) → List A → List ℕ
list_text between text [] = []
list_text between text (x ∷ xs) = text x ++ flat_map (λ y. between ∷ text y) xs

-- a bundle in a line: goods with commas (44) between
abbrev pub bundle_text : List ℕ → List ℕ
bundle_text goods = list_text 44 decimal goods

-- each good after a comma
abbrev pub after_commas : List ℕ → List ℕ
after_commas goods = flat_map (λ g. 44 ∷ decimal g) goods

-- numbers in a table: with spaces (32) between
abbrev pub list_cell : List ℕ → List ℕ
list_cell numbers = list_text 32 decimal numbers

-- a number, if there is one
abbrev pub number_cell : Option ℕ → List ℕ
number_cell None = []
number_cell (Some number) = decimal number

-- a price, if there is one
abbrev pub price_cell : Option ℕ → List ℕ
price_cell None = []
price_cell (Some price) = price_text price
