-- The first two bids that cannot both win. None is found exactly if all can win, and no earlier two clash.
use Rattle.analysis.proofs.Common.{rules, ◌≡◌, ℕ, ◌<◌, Bool, true, false, not, cond, ⊎_elim, List, [], ◌∷◌, refl, sym, ap, ◌∙◌, subst, arith, Option, Some}
use Rattle.analysis.proofs.Common.{None, Contains, IfSome, find, list_all, and_from, and_parts, cases_Bool, not-false, not-true, not_from_true, IsRising}
use Rattle.analysis.proofs.Common.{has_above, PlainFile, Contains-cons_cases, Contains-head, Contains-nil, Contains-tail, find_none, found_none, found_some}
use Rattle.analysis.proofs.Common.{list_all_at, list_all_from, bid_at, IsFirstClash, first_clash, first_rival, pair_or, can_all_win, can_both_win, same_Some}
use Rattle.analysis.proofs.Common.{has_from_contains}

-- the first of rising numbers that passes a test: no lesser one does
pub found_least : (p : ℕ → Bool) (xs : List ℕ) → IsRising xs → (x : ℕ) → find p xs ≡ Some x → (y : ℕ) → Contains xs y → y < x → p y ≡ false
found_least p [] r x e y c l = absurd (Contains-nil y c)
found_least p (z ∷ zs) r x e y c l = ⊎_elim
    (λ (t : p z ≡ true).
    let same : z ≡ x = cc in
    ⊎_elim (λ (h : z ≡ y). absurd (omega arith))
    (λ (d : Contains zs y). let above = has_above z zs y r.0 (has_from_contains zs y d) in absurd (omega arith)) (Contains-cons_cases z zs y c))
    (λ (t : p z ≡ false).
    let is : find p zs ≡ Some x = sym (ap (λ (b : Bool). cond b (Some z) (find p zs)) t) ∙ e in
    ⊎_elim (λ (h : z ≡ y). ap p (sym h) ∙ t) (λ (d : Contains zs y). found_least p zs r.1 x is y d l) (Contains-cons_cases z zs y c))
    (cases_Bool (p z))

pub found_at : (p : ℕ → Bool) (xs : List ℕ) (x : ℕ) → find p xs ≡ Some x → Contains xs x × (p x ≡ true)
found_at p xs x e = subst (λ (o : Option ℕ). IfSome o (λ y. Contains xs y × (p y ≡ true))) e (found_some p xs)

module _ (f : PlainFile) where
  abbrev Win : ℕ → ℕ → Type 0
  Win i j = can_both_win (bid_at f i) (bid_at f j) ≡ true

  abbrev clash : ℕ → ℕ → Bool
  clash i j = not (can_both_win (bid_at f i) (bid_at f j))

  pub all_win_if_none : (bids : List ℕ) → first_clash f bids ≡ None → can_all_win f bids ≡ true
  all_win_if_none [] e = refl
  all_win_if_none (i ∷ later) e = by (first_rival f i later) refl (all_win_if_none later)
    where
      by : (o : Option ℕ) → first_rival f i later ≡ o → (first_clash f later ≡ None → can_all_win f later ≡ true) → can_all_win f (i ∷ later) ≡ true
      by None h others = let rest : first_clash f later ≡ None = sym (ap (λ (o : Option ℕ). pair_or i o (first_clash f later)) h) ∙ e in
          and_from (list_all (λ j. can_both_win (bid_at f i) (bid_at f j)) later) (can_all_win f later)
          (list_all_from (λ j. can_both_win (bid_at f i) (bid_at f j)) later
          (λ j c. not-false (can_both_win (bid_at f i) (bid_at f j)) (found_none (clash i) later h j c)))
          (others rest)
      by (Some j) h others = absurd (cc)

  pub none_if_all_win : (bids : List ℕ) → can_all_win f bids ≡ true → first_clash f bids ≡ None
  none_if_all_win [] h = refl
  none_if_all_win (i ∷ later) h =
      let win : ℕ → Bool = λ j. can_both_win (bid_at f i) (bid_at f j) in
      let parts = and_parts (list_all win later) (can_all_win f later) h in
      ap (λ (o : Option ℕ). pair_or i o (first_clash f later))
      (find_none (clash i) later (λ j c. not_from_true (win j) (list_all_at win later parts.0 j c))) ∙ none_if_all_win later parts.1

  pub first_pair : (bids : List ℕ) → IsRising bids → (i j : ℕ) → first_clash f bids ≡ Some (i, j) → IsFirstClash f bids i j
  first_pair [] r i j e = absurd (cc)
  first_pair (w ∷ later) r i j e = by (first_rival f w later) refl (first_pair later r.1 i j)
    where
      in_later : (k l : ℕ) → k < l → Contains (w ∷ later) k → Contains (w ∷ later) l → Contains later l
      in_later k l less c d = ⊎_elim
          (λ (h : w ≡ l).
          ⊎_elim (λ (g : w ≡ k). absurd (omega arith))
          (λ (g : Contains later k). let above = has_above w later k r.0 (has_from_contains later k g) in absurd (omega arith))
          (Contains-cons_cases w later k c))
          (λ (h : Contains later l). h) (Contains-cons_cases w later l d)

      by : (o : Option ℕ) → first_rival f w later ≡ o → (first_clash f later ≡ Some (i, j) → IsFirstClash f later i j) → IsFirstClash f (w ∷ later) i j
      by None h others = let rest : first_clash f later ≡ Some (i, j) = sym (ap (λ (o : Option ℕ). pair_or w o (first_clash f later)) h) ∙ e in
          let p = others rest in
          record {
            first = Contains-tail w later i p.first;
            second = Contains-tail w later j p.second;
            order = p.order;
            clash = p.clash;
            earlier = λ k l c d less before.
                let m = in_later k l less c d in
                ⊎_elim
                (λ (g : w ≡ k). subst (λ (n : ℕ). Win n l) g (not-false (can_both_win (bid_at f w) (bid_at f l)) (found_none (clash w) later h l m)))
                (λ (g : Contains later k). p.earlier k l g m less before) (Contains-cons_cases w later k c);
          }
      by (Some x) h others =
          let found : ◌≡◌ {A = Option (ℕ × ℕ)} (Some (w, x)) (Some (i, j)) = sym (ap (λ (o : Option ℕ). pair_or w o (first_clash f later)) h) ∙ e in
          let pair : ◌≡◌ {A = ℕ × ℕ} (w, x) (i, j) = same_Some {A = ℕ × ℕ} (w, x) (i, j) found in
          let same : w ≡ i = ap (λ (p : ℕ × ℕ). p.0) pair in
          let other : x ≡ j = ap (λ (p : ℕ × ℕ). p.1) pair in
          let there = found_at (clash w) later x h in
          let here : IsFirstClash f (w ∷ later) w x = record {
            first = Contains-head w later;
            second = Contains-tail w later x there.0;
            order = has_above w later x r.0 (has_from_contains later x there.0);
            clash = not-true (can_both_win (bid_at f w) (bid_at f x)) there.1;
            earlier = λ k l c d less before.
                let m = in_later k l less c d in
                ⊎_elim
                (λ (b : k < w).
                ⊎_elim (λ (g : w ≡ k). absurd (omega arith))
                (λ (g : Contains later k). let above = has_above w later k r.0 (has_from_contains later k g) in absurd (omega arith))
                (Contains-cons_cases w later k c))
                (λ (b : (k ≡ w) × (l < x)).
                let is : w ≡ k = sym b.0 in
                subst (λ (n : ℕ). Win n l) is (not-false (can_both_win (bid_at f w) (bid_at f l)) (found_least (clash w) later r.1 x h l m b.1)))
                before;
          } in
          search rules
