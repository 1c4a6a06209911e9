-- `list_bits`: what is listed, and the bits that are left, are all bits.
use Rattle.goods_set.proofs.Common.{◌≡◌, ◌+◌, [], ◌∷◌, ◌++◌, map, length, word_goods}
use Rattle.goods_set.proofs.word_set.scans.list_bits.Given as goal

abbrev pub invariant-loop-rest : goal.invariant-loop-rest
invariant-loop-rest l =
    l.out.items ++ map (λ index. l.first + index) (word_goods 64 (l.rest ∷ [])) ≡ l.fn.out.items ++ map (λ index. l.first + index) (word_goods 64 (l.word ∷ []))

abbrev pub decreases-loop-rest : goal.decreases-loop-rest
decreases-loop-rest l = length (word_goods 64 (l.rest ∷ []))
