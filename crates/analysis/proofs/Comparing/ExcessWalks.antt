-- Two lists in order are walked from their ends, and each element takes an equal one of the others with it, if one is left. The
-- idea: of an element that is still to come, as many others were taken as elements were passed, up to all that there are. So
-- an element is in excess exactly where none is left for it.
use Rattle.analysis.proofs.Common.{[], common_steps, rules, ◌≡◌, ℕ, zero, suc, ◌+◌, ◌-◌, ◌<◌, ◌≤◌, Bool, true, false, cond, min, List, ◌∷◌, ◌++◌, length, drop}
use Rattle.analysis.proofs.Common.{get_or, refl, ap, ◌∙◌, arith, Ordering, Less, Equal, Greater, AllPairs, filter, range_with_len, is_eq, is_gt, is_lt, lt-ltb}
use Rattle.analysis.proofs.Common.{IsTotalOrder, le-ltb, tied_itself, sum_by-drop_more, sum_by-take-drop, count_of, le_or_lt, reverse, nat_lt, reverse-append}
use Rattle.canon.specs.Lemmas.Finding.{equal_from}

-- ---- the indices that pass a test, from some index on

abbrev pub passing_from : (ℕ → Bool) → ℕ → ℕ → List ℕ
passing_from passes index number = filter passes (range_with_len index (number - index))

passing_before : (passes : ℕ → Bool) (index number : ℕ) → index < number
    → passing_from passes index number ≡ cond (passes index) (index ∷ passing_from passes (index + 1) number) (passing_from passes (index + 1) number)
passing_before passes index number below = search rules

one_passes : (passes : ℕ → Bool) (indices : List ℕ) (index number : ℕ) → index < number → reverse indices ≡ passing_from passes (index + 1) number
    → passes index ≡ true → reverse (indices ++ index ∷ []) ≡ passing_from passes index number
one_passes passes indices index number below named e = search (rules, reverse-append, passing_before)

one_fails : (passes : ℕ → Bool) (indices : List ℕ) (index number : ℕ) → index < number → reverse indices ≡ passing_from passes (index + 1) number
    → passes index ≡ false → reverse indices ≡ passing_from passes index number
one_fails passes indices index number below named e = search (rules, passing_before)

-- ---- what was taken

module _ {X : Type 0} (cmp : X → X → Ordering) (none : X) where
  -- no element is above a later one
  abbrev pub NeverAbove : List X → Type 0
  NeverAbove xs = AllPairs (λ x y. is_gt (cmp x y) ≡ false) xs

  -- whether the element at the index is more often from there on than among the others
  abbrev pub is_more_often : List X → List X → ℕ → Bool
  is_more_often xs others index = nat_lt (count_of cmp (get_or xs index none) others) (count_of cmp (get_or xs index none) (drop index xs))

  -- As many of the others from `end` on are this element as are elements from the index on, up to all that there are.
  abbrev pub IsTaken : List X → List X → ℕ → ℕ → X → Type 0
  IsTaken xs others index end x = count_of cmp x (drop end others) ≡ min (count_of cmp x others) (count_of cmp x (drop index xs))

  -- this holds of each element before the index
  pub record AreTaken (xs others : List X) (index end : ℕ) : Type 0 where
    pub within : end ≤ length others
    pub counted : (k : ℕ) → k < index → IsTaken xs others index end (get_or xs k none)

  -- how often an element is from an index on
  count_from : (x : X) (xs : List X) (index : ℕ) → index < length xs
      → count_of cmp x (drop index xs) ≡ cond {A = ℕ} (is_eq (cmp x (get_or xs index none))) 1 0 + count_of cmp x (drop (index + 1) xs)
  count_from x xs index l = sum_by-drop_more (λ y. cond {A = ℕ} (is_eq (cmp x y)) 1 0) xs index none l

  pub count_from-le : (x : X) (xs : List X) (index : ℕ) → count_of cmp x (drop index xs) ≤ count_of cmp x xs
  count_from-le x xs index = let all = sum_by-take-drop (λ y. cond {A = ℕ} (is_eq (cmp x y)) 1 0) xs index in omega arith

  -- the elements between two indices are none of these
  count_past : (x : X) (xs : List X) (number from end : ℕ) → from + number ≡ end → end ≤ length xs
      → ((k : ℕ) → from ≤ k → k < end → is_eq (cmp x (get_or xs k none)) ≡ false) → count_of cmp x (drop from xs) ≡ count_of cmp x (drop end xs)
  count_past x xs zero from end e within differ = let same : from ≡ end = omega arith in ap (λ n. count_of cmp x (drop n xs)) same
  count_past x xs (suc number) from end e within differ = let first = count_from x xs from (omega arith) in
      search (rules, (count_past x xs number (from + 1) end (omega arith) within (λ k l m. differ k (omega arith) m)))

-- ---- one step of the walk

module _ {X : Type 0} (cmp : X → X → Ordering) (none : X) (total : IsTotalOrder cmp) (exact : (x y : X) → cmp x y ≡ Equal → x ≡ y) where
  below_further : (x y z : X) → is_gt (cmp x y) ≡ false → cmp y z ≡ Less → cmp x z ≡ Less
  below_further x y z h l = search (rules)

  not_above_last : (xs : List X) → NeverAbove cmp none xs → (k last : ℕ) → k ≤ last → last < length xs
      → is_gt (cmp (get_or xs k none) (get_or xs last none)) ≡ false
  not_above_last xs up k last l within = search (rules, tied_itself, le_or_lt)

  count_at : (xs : List X) (index : ℕ) → index < length xs
      → count_of cmp (get_or xs index none) (drop index xs) ≡ 1 + count_of cmp (get_or xs index none) (drop (index + 1) xs)
  count_at xs index l = let tied = tied_itself total (get_or xs index none) in let step = count_from cmp none (get_or xs index none) xs index l in search rules

  -- others that are greater than the last element are greater than all elements before it
  taken_past : (xs others : List X) (index end before : ℕ) → NeverAbove cmp none xs → index < length xs
      → AreTaken cmp none xs others (index + 1) end → before ≤ end
      → ((k : ℕ) → before ≤ k → k < end → is_lt (cmp (get_or xs index none) (get_or others k none)) ≡ true) → AreTaken cmp none xs others (index + 1) before
  taken_past xs others index end before up within w l greater = record {
    within = omega (arith, w.within);
    counted = λ k m.
        count_past cmp none (get_or xs k none) others (end - before) before end (omega arith) w.within
        (search (rules, below_further, not_above_last, within)) ∙ w.counted k m;
  }

  -- an element takes its equal
  module _ (xs others : List X) (index last : ℕ) (below : index < length xs) (w : AreTaken cmp none xs others (index + 1) (last + 1))
      (equal : cmp (get_or xs index none) (get_or others last none) ≡ Equal) where
    one_taken : (x : X) → IsTaken cmp none xs others (index + 1) (last + 1) x → IsTaken cmp none xs others index last x
    one_taken x counted = let some = count_from-le cmp none x others last in grind (arith, common_steps, count_from, w, exact)

    taken_equal : AreTaken cmp none xs others index last
    taken_equal = record { within = omega (arith, w.within); counted = λ k m. one_taken (get_or xs k none) (w.counted k (omega arith)) }

    -- it is not in excess, since its equal was left
    equal_left : is_more_often cmp none xs others index ≡ false
    equal_left = let x = get_or xs index none in let tied : cond {A = ℕ} (is_eq (cmp x (get_or others last none))) 1 0 ≡ 1 = search rules in
        let here = count_at xs index below in let there = count_from cmp none x others last (omega (arith, w.within)) in
        let some = count_from-le cmp none x others last in search (rules, le-ltb)

  -- none of the others before the end is equal to an element that is greater than the last of them
  none_equal : (x : X) (others : List X) (end : ℕ) → NeverAbove cmp none others → end ≤ length others
      → ((last : ℕ) → last + 1 ≡ end → cmp x (get_or others last none) ≡ Greater) → (k : ℕ) → k < end → is_eq (cmp x (get_or others k none)) ≡ false
  none_equal x others end up within greater k below = let least = greater (end - 1) (omega arith) in search (rules, below_further, not_above_last)

  -- no other is left for an element
  module _ (xs others : List X) (index end : ℕ) (below : index < length xs) (w : AreTaken cmp none xs others (index + 1) end)
      (differ : (k : ℕ) → k < end → is_eq (cmp (get_or xs index none) (get_or others k none)) ≡ false) where
    all_taken : count_of cmp (get_or xs index none) others ≡ count_of cmp (get_or xs index none) (drop end others)
    all_taken = count_past cmp none (get_or xs index none) others end 0 end (omega arith) w.within (λ k l m. differ k m)

    kept : (x : X) (o : Ordering) → cmp x (get_or xs index none) ≡ o → IsTaken cmp none xs others (index + 1) end x → IsTaken cmp none xs others index end x
    kept x o e counted = grind (arith, common_steps, all_taken, count_from)

    taken_none : AreTaken cmp none xs others index end
    taken_none = record { within = w.within; counted = λ k m. kept (get_or xs k none) _ refl (w.counted k (omega arith)) }

    -- it is in excess
    none_left : is_more_often cmp none xs others index ≡ true
    none_left = omega (arith, count_at, all_taken, lt-ltb)

  -- ---- the indices in excess, last first, and what was taken

  pub record IsWalked (xs others : List X) (index end : ℕ) (indices : List ℕ) : Type 0 where
    pub named : reverse indices ≡ passing_from (is_more_often cmp none xs others) index (length xs)
    pub taken : AreTaken cmp none xs others index end

  -- the greater ones of the others were skipped
  pub record IsSkipped (others : List X) (x : X) (end before : ℕ) : Type 0 where
    pub within : before ≤ end
    pub skipped : (k : ℕ) → before ≤ k → k < end → is_lt (cmp x (get_or others k none)) ≡ true
    pub stopped : (k : ℕ) → k + 1 ≡ before → is_lt (cmp x (get_or others k none)) ≡ false

  module _ (xs others : List X) (index end before : ℕ) (indices : List ℕ) (up : NeverAbove cmp none xs) (below : index < length xs)
      (w : IsWalked xs others (index + 1) end indices) (s : IsSkipped others (get_or xs index none) end before) where
    past : AreTaken cmp none xs others (index + 1) before
    past = taken_past xs others index end before up below w.taken s.within s.skipped

    pub walked_equal : (last : ℕ) → last + 1 ≡ before → is_eq (cmp (get_or xs index none) (get_or others last none)) ≡ true
        → IsWalked xs others index last indices
    walked_equal last e tied = grind (arith, common_steps, equal_from, past, one_fails, equal_left, taken_equal)

    pub walked_excess : NeverAbove cmp none others → ((last : ℕ) → last + 1 ≡ before → is_eq (cmp (get_or xs index none) (get_or others last none)) ≡ false)
        → IsWalked xs others index before (indices ++ index ∷ [])
    walked_excess others_up differ = let least = none_equal (get_or xs index none) others before others_up past.within (search rules) in
        search (rules, one_passes, none_left, past, taken_none)
