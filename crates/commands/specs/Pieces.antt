-- Lines in pieces.
use Rattle.std.specs.Prelude.{ℕ, List, decimal}
use Rattle.std.specs.List.{flat_map}
use Rattle.cats_text.specs.Layout.{price_text}
use Rattle.commands.specs.Outputs.{bundle_text}
use Rattle.commands.specs.declared.printed.pieces.Piece.{Piece}
use Rattle.commands.specs.declared.printed.pieces.Piece.TheVariants.{Text, Number, Goods, Price}

abbrev pub text_of_piece : Piece → List ℕ
text_of_piece (Text text) = text.now
text_of_piece (Number number) = decimal number
text_of_piece (Goods goods) = bundle_text goods.now
text_of_piece (Price price) = price_text price

-- the texts of pieces, one behind the other
abbrev pub text_of_pieces : List Piece → List ℕ
text_of_pieces pieces = flat_map text_of_piece pieces
