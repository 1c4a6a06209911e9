-- `heavy_pieces`
use Rattle.commands.proofs.Common.{◌≡◌, ◌++◌, ℕ, List, length, take, min, append_assoc, ◌∙◌, ap, codes, decimal, refl, arith, take_min, bundle_text, rest_text}
use Rattle.commands.proofs.Common.{text_of_heavy_bid, text_of_limit, text_of_piece, Piece, HeavyBid}
use Rattle.commands.proofs.printed.report.heavy_pieces.Goals as goal

joined : (prefix limit steps bid number colon goods d e f end : List ℕ)
    → prefix ++ (limit ++ (steps ++ (bid ++ (number ++ (colon ++ (goods ++ (d ++ (e ++ (f ++ end)))))))))
    ≡ prefix ++ ((limit ++ steps) ++ bid ++ number ++ colon ++ goods ++ (d ++ e ++ f)) ++ end
joined prefix limit steps bid number colon goods d e f end = simp append_assoc refl

abbrev text_of_two : Piece × Piece → List ℕ
text_of_two two = text_of_piece two.0 ++ text_of_piece two.1

abbrev text_of_three : Piece × Piece × Piece → List ℕ
text_of_three three = text_of_piece three.0 ++ text_of_piece three.1 ++ text_of_piece three.2

-- the line, where two pieces are of the limit and three of the goods that are not shown
line_joined : (heavy : HeavyBid) (prefix text goods : List ℕ) (shown : ℕ) (a : Piece × Piece) (b : Piece × Piece × Piece) → text ≡ prefix
    → goods ≡ heavy.goods.items → shown ≡ min (length goods) 20 → text_of_two a ≡ text_of_limit heavy.limit → text_of_three b ≡ rest_text (length goods)
    → text ++ (text_of_piece a.0 ++ (text_of_piece a.1 ++ (codes " at bid " ++ (decimal heavy.number ++ (codes ": "
    ++ (bundle_text (take shown goods) ++ (text_of_piece b.0 ++ (text_of_piece b.1 ++ (text_of_piece b.2 ++ codes "\n")))))))))
    ≡ prefix ++ text_of_heavy_bid heavy ++ codes "\n"
line_joined heavy prefix text goods shown a b t g s limit rest =
    let least : shown ≡ min 20 (length goods) = omega (arith, s) in
    let first : take shown goods ≡ take 20 goods = ap (λ (n : ℕ). take n goods) least ∙ take_min 20 goods in
    rw (t, first, ← g, ← limit, ← rest)
    (joined prefix (text_of_piece a.0) (text_of_piece a.1) (codes " at bid ") (decimal heavy.number) (codes ": ") (bundle_text (take 20 goods))
    (text_of_piece b.0) (text_of_piece b.1) (text_of_piece b.2) (codes "\n"))

pub returns : goal.returns
returns c =
    line_joined c.args.heavy.now c.args.prefix.now _ _ _ c.limit_pieces.result c.rest_pieces.result c.as_bytes.ensures.value
    c.as_slice-goods.ensures.value c.min.ensures c.limit_pieces.ensures c.rest_pieces.ensures
