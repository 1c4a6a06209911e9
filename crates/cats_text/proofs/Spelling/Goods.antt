-- Bid lines without a fault: a number, a price, and goods up to `#`.
use Rattle.cats_text.proofs.Common.{rules, ◌≡◌, ℕ, ◌+◌, ◌<◌, Bool, true, false, not, cond, eqb, ltb, leb, ◌||◌, ◌&&◌, ⊎_elim, List, [], ◌∷◌, ◌++◌, length, map}
use Rattle.cats_text.proofs.Common.{None, Option, refl, sym, ap, ap₂, ◌∙◌, subst, append_assoc, append-nil, arith, both_ways, leb-false, lt-leb, not-false}
use Rattle.cats_text.proofs.Common.{not_from_true, or_left, or_right, or_from, false_from_ne_true, cases_Bool, map-append, list_any-append, AllByRecursion}
use Rattle.cats_text.proofs.Common.{list_any, Word, is_number, number_of, is_price, is_too_large, is_too_fine, has_good, line_number, when, Bounds}
use Rattle.cats_text.proofs.Common.{number_word, price_word, is_end, has_end, bid_end, bounds_of, words_fault, Kind, NotANumber, GoodRange, RepeatedGood}
use Rattle.cats_text.proofs.Common.{TwoDummies, EmptyBundle, common_steps, codes}
use Rattle.cats_text.proofs.Spelling.Members.{AreGoods, MayFollow, no_goods, push_goods, may_follow}
use Rattle.cats_text.proofs.Spelling.Tests.{when_none, none_when, or_none, none_or, equal_words}

abbrev numbers : List Word → List ℕ
numbers ws = map number_of ws

any_numbers : (p : ℕ → Bool) (ws : List Word) → list_any p (numbers ws) ≡ list_any (λ w. p (number_of w)) ws
any_numbers p [] = refl
any_numbers p (w ∷ ws) = ap (λ b. p (number_of w) || b) (any_numbers p ws)

pub number_no_end : (w : Word) → is_number w ≡ true → is_end w ≡ false
number_no_end w h = grind (arith, common_steps, equal_words, false_from_ne_true)

end_push : (before : List Word) (w : Word) → has_end (before ++ w ∷ []) ≡ (has_end before || (is_end w || false))
end_push before w = list_any-append is_end before (w ∷ [])

-- ---- one good

abbrev high_test : Bounds → List Word → Word → Bool
high_test h before w = leb h.goods (number_of w) && list_any (λ g. leb h.goods (number_of g)) before

abbrev good_tests : Bounds → List Word → Word → Option Kind
good_tests h before w =
    when (not (is_number w)) NotANumber
    (when (leb (h.goods + h.dummy) (number_of w)) GoodRange
    (when (list_any (λ g. eqb (number_of g) (number_of w)) before) RepeatedGood
    (when (high_test h before w) TwoDummies None)))

abbrev end_tests : Bounds → List Word → Option Kind
end_tests h before = when (not (list_any (λ g. ltb (number_of g) h.goods) before)) EmptyBundle None

good_from : (h : Bounds) (before : List Word) (w : Word) → good_tests h before w ≡ None → (is_number w ≡ true)
    × MayFollow h.goods h.dummy (numbers before) (number_of w)
good_from h before w f = grind (arith, common_steps, any_numbers, not-false, when_none)

good_none : (h : Bounds) (before : List Word) (w : Word) → is_number w ≡ true → MayFollow h.goods h.dummy (numbers before) (number_of w)
    → good_tests h before w ≡ None
good_none h before w n m = grind (arith, common_steps, any_numbers, none_when, not_from_true)

-- ---- the goods up to `#`

abbrev any_real : Bounds → List Word → Type 0
any_real h ws = list_any (λ g. ltb (number_of g) h.goods) ws ≡ true

-- the words behind these are goods, and then `#`
record EndsGoods (h : Bounds) (before words : List Word) : Type 0 where
  goods : List Word
  words_are : words ≡ goods ++ codes "#" ∷ []
  spelled : AllByRecursion (λ w. is_number w ≡ true) goods
  are : AreGoods h.goods h.dummy (map number_of (before ++ goods))
  real : list_any (λ g. ltb (number_of g) h.goods) (before ++ goods) ≡ true

pub record IsBidLine (h : Bounds) (words : List Word) : Type 0 where
  pub number : Word
  pub price : Word
  pub goods : List Word
  pub words_are : words ≡ number ∷ price ∷ (goods ++ codes "#" ∷ [])
  pub number_spelled : is_number number ≡ true
  pub number_below : number_of number < h.bids
  pub price_spelled : is_price price ≡ true
  pub not_large : is_too_large price ≡ false
  pub exact : is_too_fine price ≡ false
  pub goods_spelled : AllByRecursion (λ w. is_number w ≡ true) goods
  pub goods_are : AreGoods h.goods h.dummy (map number_of goods)
  pub real : list_any (λ g. ltb (number_of g) h.goods) goods ≡ true

-- whether one of the lines has this number
abbrev pub has_line : List (List Word) → ℕ → Bool
has_line lines n = has_good (map line_number lines) n

-- the line has a number of its own, and is not one too many
pub record IsNewLine (h : Bounds) (lines : List (List Word)) (words : List Word) : Type 0 where
  pub due : length lines < h.bids
  pub new : has_line lines (line_number words) ≡ false

any_lines : (n : ℕ) (lines : List (List Word)) → has_line lines n ≡ list_any (λ l. eqb (line_number l) n) lines
any_lines n [] = refl
any_lines n (l ∷ ls) = ap (λ b. eqb (line_number l) n || b) (any_lines n ls)

module _ (g b d : List Word) (lines : List (List Word)) where
  abbrev bounds : Bounds
  bounds = bounds_of g b d

  abbrev goods_fault : Word → Word → List Word → List Word → Option Kind
  goods_fault n p before ws = words_fault (g ∷ b ∷ d ∷ lines) (n ∷ p ∷ before) ws

  nothing_after : (n p : Word) (before ws : List Word) → goods_fault n p before ws ≡ None → has_end before ≡ true → ws ≡ []
  nothing_after n p before [] f e = refl
  nothing_after n p before (w ∷ ws) f e = absurd (both_ways (has_end before) (when_none _ _ _ (or_none _ _ f).0).0 e)

  goods_from : (n p : Word) (before ws : List Word) → AreGoods bounds.goods bounds.dummy (numbers before) → has_end before ≡ false
      → goods_fault n p before ws ≡ None → has_end (before ++ ws) ≡ true → EndsGoods bounds before ws
  goods_from n p before [] a e f t = absurd (both_ways (has_end before) e (sym (ap has_end (append-nil before)) ∙ t))
  goods_from n p before (w ∷ ws) a e f t =
      let first = or_none _ _ f in
      let tests = when_none _ _ _ first.0 in
      ⊎_elim
      (λ (q : is_end w ≡ true).
      let last : end_tests bounds before ≡ None = sym (ap (λ x. cond x (end_tests bounds before) (good_tests bounds before w)) q) ∙ tests.1 in
      let some = when_none _ _ _ last in
      let nothing : ws ≡ [] =
      nothing_after n p (before ++ w ∷ []) ws first.1 (end_push before w ∙ or_right (has_end before) (is_end w || false) (or_left (is_end w) false q)) in
      record {
        goods = [];
        words_are = ap₂ (λ v vs. v ∷ vs) (equal_words w (codes "#") q) nothing;
        spelled = tt;
        are = subst (λ vs. AreGoods bounds.goods bounds.dummy (numbers vs)) (sym (append-nil before)) a;
        real = subst (any_real bounds) (sym (append-nil before)) (not-false (list_any (λ v. ltb (number_of v) bounds.goods) before) some.0);
      })
      (λ (q : is_end w ≡ false).
      let good : (is_number w ≡ true) × MayFollow bounds.goods bounds.dummy (numbers before) (number_of w)
      = good_from bounds before w (sym (ap (λ x. cond x (end_tests bounds before) (good_tests bounds before w)) q) ∙ tests.1) in
      let more : AreGoods bounds.goods bounds.dummy (numbers (before ++ w ∷ []))
      = subst (AreGoods bounds.goods bounds.dummy) (sym (map-append number_of before (w ∷ [])))
      (push_goods bounds.goods bounds.dummy (numbers before) (number_of w) a good.1) in
      let moved : (before ++ w ∷ []) ++ ws ≡ before ++ w ∷ ws = append_assoc before (w ∷ []) ws in
      let rest : EndsGoods bounds (before ++ w ∷ []) ws = goods_from n p (before ++ w ∷ []) ws more
      (end_push before w ∙ or_from (has_end before) (is_end w || false) e (or_from (is_end w) false q refl)) first.1 (ap has_end moved ∙ t) in
      let all : (before ++ w ∷ []) ++ rest.goods ≡ before ++ w ∷ rest.goods = append_assoc before (w ∷ []) rest.goods in
      record {
        goods = w ∷ rest.goods;
        words_are = ap (λ vs. w ∷ vs) rest.words_are;
        spelled = (good.0, rest.spelled);
        are = subst (λ vs. AreGoods bounds.goods bounds.dummy (numbers vs)) all rest.are;
        real = subst (any_real bounds) all rest.real;
      })
      (cases_Bool (is_end w))

  goods_none : (n p : Word) (before goods : List Word) → AllByRecursion (λ w. is_number w ≡ true) goods
      → AreGoods bounds.goods bounds.dummy (numbers (before ++ goods)) → has_end before ≡ false
      → any_real bounds (before ++ goods) → goods_fault n p before (goods ++ codes "#" ∷ []) ≡ None
  goods_none n p before [] s a e r = search (rules, none_or, none_when, not_from_true, append-nil)
  goods_none n p before (w ∷ ws) s a e r =
      let q : is_end w ≡ false = number_no_end w s.0 in
      let may : MayFollow bounds.goods bounds.dummy (numbers before) (number_of w)
      = may_follow bounds.goods bounds.dummy (numbers before) (number_of w) (numbers ws)
      (subst (AreGoods bounds.goods bounds.dummy) (map-append number_of before (w ∷ ws)) a) in
      let all : before ++ w ∷ ws ≡ (before ++ w ∷ []) ++ ws = sym (append_assoc before (w ∷ []) ws) in
      none_or _ _ (none_when _ _ _ e
      (ap (λ x. cond x (end_tests bounds before) (good_tests bounds before w)) q ∙ good_none bounds before w s.0 may))
      (goods_none n p (before ++ w ∷ []) ws s.1 (subst (λ vs. AreGoods bounds.goods bounds.dummy (numbers vs)) all a)
      (end_push before w ∙ or_from (has_end before) (is_end w || false) e (or_from (is_end w) false q refl)) (subst (any_real bounds) all r))

  -- ---- a bid line

  abbrev number_test : Word → Bool
  number_test w = list_any (λ l. eqb (line_number l) (number_of w)) lines

  number_from : (w : Word) → number_word bounds lines w ≡ None → (is_number w ≡ true) × (length lines < bounds.bids) × (number_of w < bounds.bids)
      × (has_line lines (number_of w) ≡ false)
  number_from w f = grind (arith, common_steps, any_lines, leb-false, not-false, when_none)

  number_none : (w : Word) → is_number w ≡ true → length lines < bounds.bids → number_of w < bounds.bids → has_line lines (number_of w)
      ≡ false → number_word bounds lines w ≡ None
  number_none w n l k h = grind (arith, common_steps, any_lines, lt-leb, none_when, not_from_true)

  price_from : (w : Word) → price_word w ≡ None → (is_price w ≡ true) × (is_too_large w ≡ false) × (is_too_fine w ≡ false)
  price_from w f = grind (arith, common_steps, not-false, when_none)

  price_none : (w : Word) → is_price w ≡ true → is_too_large w ≡ false → is_too_fine w ≡ false → price_word w ≡ None
  price_none w p l f = none_when _ _ _ (not_from_true (is_price w) p) (none_when _ _ _ l (none_when _ _ _ f refl))

  pub bid_line_from : (words : List Word) → words_fault (g ∷ b ∷ d ∷ lines) [] words ≡ None → bid_end words ≡ None → IsBidLine bounds words
      × IsNewLine bounds lines words
  bid_line_from [] f e = absurd (cc)
  bid_line_from (n ∷ []) f e = absurd (cc)
  bid_line_from (n ∷ p ∷ ws) f e = search (rules, or_none, number_from, price_from, goods_from, no_goods, not-false, when_none)

  has_end_end : (ws : List Word) → has_end (ws ++ codes "#" ∷ []) ≡ true
  has_end_end ws = list_any-append is_end ws (codes "#" ∷ []) ∙ or_right (has_end ws) true refl

  pub bid_line_none : (words : List Word) → IsBidLine bounds words → IsNewLine bounds lines words → (words_fault (g ∷ b ∷ d ∷ lines) [] words ≡ None)
      × (bid_end words ≡ None)
  bid_line_none words q new = search (rules, none_or, number_none, price_none, goods_none, none_when, not_from_true, has_end_end)
