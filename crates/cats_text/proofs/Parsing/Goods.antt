-- The goods of a bid line and its `#`: the parser and the definitions agree.
use Rattle.cats_text.proofs.Common.{rules, ◌≡◌, ℕ, ◌+◌, ◌-◌, ◌<◌, ◌≤◌, Bool, true, false, not, ◌&&◌, cond, eqb, ltb, leb, List, [], ◌∷◌, ◌++◌, length, refl}
use Rattle.cats_text.proofs.Common.{sym, ap, ap₂, ◌∙◌, subst, arith, Option, Some, None, Ok, Err, ltb-true, ltb-false, le-leb, lt-leb, leb-true, leb-false}
use Rattle.cats_text.proofs.Common.{eqb-true, eqb-false, eq-eqb, ne_eqb, list_any, find, is_some, is_number, number_of, has_good, header_value, word_fault}
use Rattle.cats_text.proofs.Common.{when, has_end, is_end, before_end, real_goods, dummy_in, Progress, good_or_end_read, good_read, dummy_read, end_read, Kind}
use Rattle.cats_text.proofs.Common.{Keyword, Number, End, Other, Ended, Header, MAX_GOODS, MAX_DUMMY, common_steps, option_map}
use Rattle.cats_text.specs.declared.read_fault.Kind.TheVariants as kinds
use Rattle.cats_text.specs.declared.word.Word.{Word}
use Rattle.cats_text.specs.declared.word.Word.TheVariants.{Decimal as Fraction}
use Rattle.cats_text.proofs.Words.Kept.{Summarises}
use Rattle.cats_text.proofs.Words.Tests.{IsTested, is_number_by, ends_by}
use Rattle.cats_text.proofs.Parsing.States.{IsAt, WordFollows, HasOneDummy, ended_column, with_words}
use Rattle.cats_text.proofs.Parsing.Headers.{holds_le, holds_same}
use Rattle.cats_text.proofs.Parsing.Bids.{follow_test, fault_named, passes}
use Rattle.cats_text.proofs.Parsing.GoodsSoFar.{values, before_end-all, before_end-ended, before_end-push, has_end-push, values-push, any_find, any_values}
use Rattle.cats_text.proofs.Parsing.GoodsSoFar.{find_passes, has_filtered, none_real, no_dummy_has_not, other_dummy_has_not, one_more_real, first_dummy}
use Rattle.cats_text.proofs.Parsing.GoodsSoFar.{real_goods-real, real_goods-dummy, dummy_in-real, dummy_in-dummy}

-- the tests of a good, in the order of the definitions
abbrev tests_from_range : ℕ → ℕ → List (List ℕ) → List ℕ → Option Kind
tests_from_range G D gs w =
    when (leb (G + D) (number_of w)) kinds.GoodRange
    (when (list_any (λ g. eqb (number_of g) (number_of w)) gs) kinds.RepeatedGood
    (when (leb G (number_of w) && list_any (λ g. leb G (number_of g)) gs) kinds.TwoDummies None))

abbrev tests_from_number : ℕ → ℕ → List (List ℕ) → List ℕ → Option Kind
tests_from_number G D gs w = when (not (is_number w)) kinds.NotANumber (tests_from_range G D gs w)

abbrev tests_from_end : ℕ → ℕ → List (List ℕ) → List ℕ → Option Kind
tests_from_end G D gs w = cond (is_end w) (when (not (list_any (λ g. ltb (number_of g) G) gs)) kinds.EmptyBundle None) (tests_from_number G D gs w)

-- two dummy goods, by their numbers behind the real goods
same_behind : (G e v : ℕ) → G ≤ e → G ≤ v → eqb (e - G) (v - G) ≡ eqb e v
same_behind G e v le lv = grind (arith, common_steps, eq-eqb, eqb-false, eqb-true, ne_eqb)

-- ---- one more word of the goods

module _ (g b d : List (List ℕ)) (lines : List (List (List ℕ))) (n x : List ℕ) (gs : List (List ℕ)) (w : List ℕ) (p : Progress)
    (at : IsAt (g ∷ b ∷ d ∷ lines) (n ∷ x ∷ gs) p) (on : has_end gs ≡ false) where
  abbrev above : List (List (List ℕ))
  above = g ∷ b ∷ d ∷ lines

  abbrev before : List (List ℕ)
  before = n ∷ x ∷ gs

  abbrev G : ℕ
  G = p.header.goods

  goods_are : p.goods ≡ real_goods G gs
  goods_are = at.draft.goods ∙ ap (real_goods G) (before_end-all gs on)

  dummy_is : p.draft.dummy ≡ dummy_in G gs
  dummy_is = at.draft.dummy ∙ ap (dummy_in G) (before_end-all gs on)

  one_dummy : HasOneDummy G (values gs)
  one_dummy = subst (λ ws. HasOneDummy G (values ws)) (before_end-all gs on) at.draft.one

  -- ---- the `#`

  end_follows : is_end w ≡ true → word_fault above before w ≡ tests_from_end (header_value g) (header_value d) gs w → WordFollows above before w (end_read p)
  end_follows e fault =
      let goods : G ≡ header_value g = ap (λ (h : Header). h.goods) at.header in
      let is : word_fault above before w ≡ when (not (list_any (λ v. ltb (number_of v) (header_value g)) gs)) kinds.EmptyBundle None = search rules in
      let same : before_end (gs ++ w ∷ []) ≡ gs = before_end-ended gs w on e in
      follow_test above before w _ _ kinds.EmptyBundle _ _ is (ap (λ (vs : List ℕ). eqb (length vs) 0) goods_are ∙ none_real G (values gs)
      ∙ ap not (any_values (λ v. ltb v G) gs ∙ ap (λ k. list_any (λ v. ltb (number_of v) k) gs) goods)) (λ _ is. (
        is,
        with_words above before (n ∷ x ∷ (gs ++ w ∷ [])) p Ended p.draft p.goods at (sym (ap ended_column (has_end-push gs w on ∙ e))) refl (record {
          number = at.draft.number;
          price = at.draft.price;
          dummy = dummy_is ∙ ap (dummy_in G) (sym same);
          goods = goods_are ∙ ap (real_goods G) (sym same);
          one = subst (λ ws. HasOneDummy G (values ws)) (sym same) one_dummy;
        }),
      ))

  -- ---- a good

  -- what is kept behind it
  one_more : (goods : List ℕ) (dummy : Option ℕ) → is_end w ≡ false → goods ≡ real_goods G (gs ++ w ∷ []) → dummy ≡ dummy_in G (gs ++ w ∷ [])
      → HasOneDummy G (values gs ++ number_of w ∷ [])
      → IsAt above (n ∷ x ∷ (gs ++ w ∷ [])) (record p { draft = record p.draft { dummy = dummy }; goods = goods })
  one_more goods dummy e goods_same dummy_same one =
      let all : before_end (gs ++ w ∷ []) ≡ gs ++ w ∷ [] = before_end-push gs w on e in
      with_words above before (n ∷ x ∷ (gs ++ w ∷ [])) p p.column (record p.draft { dummy = dummy }) goods at
      (at.column ∙ ap ended_column (on ∙ sym (has_end-push gs w on ∙ e))) refl (record {
        number = at.draft.number;
        price = at.draft.price;
        dummy = dummy_same ∙ ap (dummy_in G) (sym all);
        goods = goods_same ∙ ap (real_goods G) (sym all);
        one = subst (HasOneDummy G) (sym (ap values all ∙ values-push gs w)) one;
      })

  -- whether one of the goods before it passes this test
  abbrev any : (ℕ → Bool) → Bool
  any test = list_any (λ y. test (number_of y)) gs

  abbrev repeated : Option Kind
  repeated = when (any (λ y. eqb y (number_of w))) kinds.RepeatedGood (when (leb G (number_of w) && any (λ y. leb G y)) kinds.TwoDummies None)

  real_follows : (v : ℕ) → is_end w ≡ false → v ≡ number_of w → v < G → word_fault above before w ≡ repeated
      → WordFollows above before w (cond (has_good p.goods v) (Err kinds.RepeatedGood) (Ok (record p { goods = p.goods ++ v ∷ [] })))
  real_follows v e same l fault =
      let lw : number_of w < G = omega arith in
      follow_test above before w _ _ kinds.RepeatedGood _ _ fault (ap (λ vs. has_good vs v) goods_are ∙ has_filtered G (values gs) v l
      ∙ any_values (λ y. eqb y v) gs ∙ ap (λ k. any (λ y. eqb y k)) same) (λ _ is. (
        is ∙ ap (λ t. when (t && any (λ y. leb G y)) kinds.TwoDummies None) (lt-leb G (number_of w) lw),
        one_more (p.goods ++ v ∷ []) p.draft.dummy e
            (ap₂ (λ (vs : List ℕ) (k : ℕ). vs ++ k ∷ []) goods_are same ∙ sym (real_goods-real G gs w lw)) (dummy_is ∙ sym (dummy_in-real G gs w lw))
            (one_more_real G (values gs) (number_of w) lw one_dummy),
      ))

  dummy_follows : is_end w ≡ false → G ≤ number_of w → word_fault above before w ≡ repeated → (found : Option ℕ) → find (λ y. leb G y) (values gs) ≡ found
      → WordFollows above before w (dummy_read p (option_map (λ v. v - G) found) (number_of w - G))
  dummy_follows e le fault None none =
      let is_dummy : leb G (number_of w) ≡ true = le-leb G (number_of w) le in
      let new : any (λ y. eqb y (number_of w)) ≡ false = sym (any_values (λ y. eqb y (number_of w)) gs)
      ∙ no_dummy_has_not G (values gs) (number_of w) one_dummy is_dummy none in
      let first : any (λ y. leb G y) ≡ false = sym (any_values (λ y. leb G y) gs) ∙ any_find (λ y. leb G y) (values gs) ∙ ap is_some none in (
        passes above before w _ _ _ fault new ∙ ap₂ (λ (s t : Bool). when (s && t) kinds.TwoDummies None) is_dummy first,
        one_more p.goods (Some (number_of w - G)) e (goods_are ∙ sym (real_goods-dummy G gs w le)) (sym (dummy_in-dummy G gs w le none))
            (first_dummy G (values gs) (number_of w) is_dummy none one_dummy),
      )
  dummy_follows e le fault (Some f) found =
      let is_dummy : leb G (number_of w) ≡ true = le-leb G (number_of w) le in
      let there = find_passes (λ y. leb G y) (values gs) f found in
      let lf : G ≤ f = leb-true G f there.0 in
      subst (λ t. WordFollows above before w (cond t (Err kinds.RepeatedGood) (Err kinds.TwoDummies))) (sym (same_behind G f (number_of w) lf le))
      (elim (eqb f (number_of w)) as
      (λ t. eqb f (number_of w) ≡ t → WordFollows above before w (cond t (Err kinds.RepeatedGood) (Err kinds.TwoDummies))) [
        | true ↦ λ (q : eqb f (number_of w) ≡ true). fault_named above before w _ _ _ fault
            (sym (any_values (λ y. eqb y (number_of w)) gs) ∙ subst (λ k. has_good (values gs) k ≡ true) (eqb-true f (number_of w) q) there.1)
        | false ↦ λ (q : eqb f (number_of w) ≡ false).
            let new : any (λ y. eqb y (number_of w)) ≡ false = sym (any_values (λ y. eqb y (number_of w)) gs)
            ∙ other_dummy_has_not G (values gs) (number_of w) f one_dummy is_dummy found (eqb-false f (number_of w) q) in
            let other : any (λ y. leb G y) ≡ true = sym (any_values (λ y. leb G y) gs) ∙ any_find (λ y. leb G y) (values gs) ∙ ap is_some found in
            passes above before w _ _ _ fault new ∙ ap₂ (λ (s t : Bool). when (s && t) kinds.TwoDummies None) is_dummy other
      ] refl)

  good_follows : (v : ℕ) → is_end w ≡ false → Summarises w (Number v) → word_fault above before w ≡ tests_from_range G p.header.dummy gs w
      → WordFollows above before w (good_read p v)
  good_follows v e t fault =
      let few : G ≤ MAX_GOODS = at.goods in
      let few_dummies : p.header.dummy ≤ MAX_DUMMY = at.dummy in
      follow_test above before w _ _ kinds.GoodRange _ _ fault (holds_le (G + p.header.dummy) v (number_of w) (omega arith) t.1)
      (λ below is. let l : v < G + p.header.dummy = leb-false (G + p.header.dummy) v below in
      let same : v ≡ number_of w = holds_same v (number_of w) (omega arith) t.1 in
      elim (ltb v G) as (λ q. ltb v G ≡ q → WordFollows above before w
      (cond q (cond (has_good p.goods v) (Err kinds.RepeatedGood) (Ok (record p { goods = p.goods ++ v ∷ [] }))) (dummy_read p p.draft.dummy (v - G)))) [
        | true ↦ λ (q : ltb v G ≡ true). real_follows v e same (ltb-true v G q) is
        | false ↦ λ (q : ltb v G ≡ false). let low : G ≤ v = ltb-false v G q in
            subst (λ (k : ℕ). WordFollows above before w (dummy_read p p.draft.dummy (k - G))) (sym same)
            (subst (λ (u : Option ℕ). WordFollows above before w (dummy_read p u (number_of w - G))) (sym dummy_is)
            (dummy_follows e (omega arith) is (find (λ y. leb G y) (values gs)) refl))
      ] refl)

  -- ---- a word behind the price

  tests_here : word_fault above before w ≡ tests_from_end G p.header.dummy gs w
  tests_here = ap (λ t. when t kinds.AfterEnd (tests_from_end (header_value g) (header_value d) gs w)) on ∙ sym (search rules)

  no_good : (s : Word) → IsTested w s → ends_by s ≡ false → is_number_by s ≡ false → WordFollows above before w (Err kinds.NotANumber)
  no_good s tested e m = grind (arith, common_steps, tests_here)

  pub bid_later : (s : Word) → IsTested w s → Summarises w s → WordFollows above before w (good_or_end_read p s)
  bid_later (Number v) tested t = good_follows v tested.ended t
      (tests_here ∙ ap (λ u. cond u (when (not (any (λ v. ltb v G))) kinds.EmptyBundle None) (tests_from_number G p.header.dummy gs w)) tested.ended
      ∙ ap (λ u. when (not u) kinds.NotANumber (tests_from_range G p.header.dummy gs w)) tested.number)
  bid_later End tested t = grind (arith, common_steps, end_follows)
  bid_later (Keyword j k) tested t = no_good (Keyword j k) tested refl refl
  bid_later (Fraction f) tested t = no_good (Fraction f) tested refl refl
  bid_later Other tested t = no_good Other tested refl refl
