-- What is kept of a list is its prefix: an element that is kept is swapped behind those kept so far, and what is behind it
-- is as it was.
use Rattle.prune.proofs.Common.{rules, ◌≡◌, ℕ, ◌+◌, ◌<◌, ◌≤◌, List, [], ◌∷◌, ◌++◌, length, get_or, take, drop, refl, sym, ap, ◌∙◌, arith, common_steps, swap}
use Rattle.prune.proofs.Common.{take-set-le, take_more, take_more_set, drop-set-lt, drop_more, take-append-drop, swap_is}

-- ---- one swap

pub swap-prefix : {X : Type 0} (xs : List X) (prefix index : ℕ) (d : X) → prefix ≤ index → (prefix ≡ index → ⊥) → index < length xs
    → take (prefix + 1) (swap xs prefix index) ≡ take prefix xs ++ get_or xs index d ∷ []
swap-prefix xs prefix index d before apart there = grind (arith, common_steps, swap_is, take-set-le, take_more_set)

pub swap-rest : {X : Type 0} (xs : List X) (prefix index : ℕ) → prefix ≤ index → (prefix ≡ index → ⊥) → index < length xs
    → drop (index + 1) (swap xs prefix index) ≡ drop (index + 1) xs
swap-rest [] prefix index before apart there = refl
swap-rest {X} (d ∷ ys) prefix index before apart there = search (rules, swap_is, drop-set-lt)

-- ---- a list that is visited in order

-- from the index on the list is as it was at first
pub record IsLeft {X : Type 0} (first now : List X) (index : ℕ) : Type 0 where
  pub long : length now ≡ length first
  pub rest : drop index now ≡ drop index first

module _ {X : Type 0} (first now : List X) (index : ℕ) (x : X) (h : IsLeft first now index) (l : index < length now) (is : x ≡ get_or now index x)
  where
    next_rest : drop index first ≡ x ∷ drop (index + 1) now
    next_rest = sym h.rest ∙ drop_more now index x l ∙ ap (λ y. y ∷ drop (index + 1) now) (sym is)

    -- the next element was there at first
    next_there : (x ≡ get_or first index x) × (drop (index + 1) now ≡ drop (index + 1) first)
    next_there =
        let long = h.long in
        let e = next_rest in
        let f = drop_more first index x (omega (arith, long)) in (cc, cc)

    pub next_taken : take (index + 1) first ≡ take index first ++ x ∷ []
    next_taken =
        let long = h.long in
        take_more first index x (omega (arith, long)) ∙ ap (λ y. take index first ++ y ∷ []) (sym next_there.0)

    pub next_parts : first ≡ take index first ++ x ∷ drop (index + 1) first
    next_parts = sym (take-append-drop index first) ∙ ap (λ zs. take index first ++ zs) (next_rest ∙ ap (λ zs. x ∷ zs) next_there.1)

    pub next_drop : drop index first ≡ x ∷ drop (index + 1) first
    next_drop = next_rest ∙ ap (λ zs. x ∷ zs) next_there.1

    -- what is behind the element stays
    pub next_left : (after : List X) → length after ≡ length now → drop (index + 1) after ≡ drop (index + 1) now → IsLeft first after (index + 1)
    next_left after long rest = record { long = long ∙ h.long; rest = rest ∙ next_there.1 }
