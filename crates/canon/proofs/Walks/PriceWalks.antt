-- The walk of two lists of bids in order gives all changes: the lesser of the two first bundles comes before all others.
use Rattle.canon.proofs.Common.{rules, ◌≡◌, ℕ, false, eqb, ⊎_elim, Some, List, [], ◌∷◌, refl, sym, ap, ◌∙◌, subst, Ordering, Less, Equal, Greater}
use Rattle.canon.proofs.Common.{match_ordering, ordering_reverse, cases_Bool, eqb-true, eqb-false, cond-true, cond-false, All-nil, All-cons, All-weaker}
use Rattle.canon.proofs.Common.{bundle_cmp, bundle_cmp_total, bundle_cmp_equal, Atom, AllPairs-nil, AllPairs-head, AllPairs-tail, IsBefore, IsInOrder}
use Rattle.canon.proofs.Common.{changes_of, if_differs, on_both, only_left, only_right, AreLater, IsBehind, price_here, price_behind, no_price, past_change}
use Rattle.canon.proofs.Common.{past_same, PlainChange, price_on, ArePriceChanges}

-- ---- past a bundle

none_later : (bundle : List ℕ) → AreLater bundle []
none_later bundle = All-nil (λ (a : Atom (List ℕ)). bundle_cmp bundle a.bundle ≡ Less)

all_later : (bundle : List ℕ) (a : Atom (List ℕ)) (rest : List (Atom (List ℕ))) → IsInOrder (a ∷ rest) → bundle_cmp bundle a.bundle ≡ Less
    → AreLater bundle (a ∷ rest)
all_later bundle a rest s l =
    All-cons (λ (b : Atom (List ℕ)). bundle_cmp bundle b.bundle ≡ Less) a rest l
    (All-weaker (IsBefore a) (λ (b : Atom (List ℕ)). bundle_cmp bundle b.bundle ≡ Less)
    (λ b m. bundle_cmp_total.trans bundle a.bundle b.bundle l m) rest (AllPairs-head IsBefore a rest s))

behind_head : (a : Atom (List ℕ)) (rest : List (Atom (List ℕ))) → IsInOrder (a ∷ rest) → IsBehind a.bundle (a ∷ rest) rest
behind_head a rest s = record { later = AllPairs-head IsBefore a rest s; same = price_behind a rest }

behind_none : (bundle : List ℕ) (atoms : List (Atom (List ℕ))) → AreLater bundle atoms → IsBehind bundle atoms atoms
behind_none bundle atoms later = record { later = later; same = λ other d. refl }

module _ (a : Atom (List ℕ)) (rest others : List (Atom (List ℕ))) (s : IsInOrder (a ∷ rest)) (later : AreLater a.bundle others)
    (changes : List PlainChange) where
  past_left : ArePriceChanges rest others changes → ArePriceChanges (a ∷ rest) others (only_left a ∷ changes)
  past_left found =
      past_change a.bundle (a ∷ rest) rest others others (behind_head a rest s) (behind_none a.bundle others later) changes found (only_left a) refl
      (search (rules, price_here, no_price))

  past_right : ArePriceChanges others rest changes → ArePriceChanges others (a ∷ rest) (only_right a ∷ changes)
  past_right found =
      past_change a.bundle others others (a ∷ rest) rest (behind_none a.bundle others later) (behind_head a rest s) changes found (only_right a) refl
      (search (rules, no_price, price_here))

past_both : (a b : Atom (List ℕ)) (rest others : List (Atom (List ℕ))) → IsInOrder (a ∷ rest) → IsInOrder (b ∷ others) → a.bundle ≡ b.bundle
    → (changes : List PlainChange) → ArePriceChanges rest others changes → ArePriceChanges (a ∷ rest) (b ∷ others) (if_differs (on_both a b) changes)
past_both a b rest others s t same changes found = ⊎_elim (search (rules, are, cond-true, past_same, here, there, on_left, eqb-true, on_right))
    (λ (e : eqb a.price b.price ≡ false). subst are (sym (cond-false (eqb a.price b.price) changes (on_both a b ∷ changes) e))
    (past_change a.bundle (a ∷ rest) rest (b ∷ others) others here there changes found (on_both a b) refl
    (record { on_left = sym on_left; on_right = sym on_right; differ = λ d. eqb-false a.price b.price e (cc) }))) (cases_Bool (eqb a.price b.price))
  where
    are : List PlainChange → Type 0
    are = ArePriceChanges (a ∷ rest) (b ∷ others)

    here : IsBehind a.bundle (a ∷ rest) rest
    here = behind_head a rest s

    there : IsBehind a.bundle (b ∷ others) others
    there = subst (λ (bundle : List ℕ). IsBehind bundle (b ∷ others) others) (sym same) (behind_head b others t)

    on_left : price_on (a ∷ rest) a.bundle ≡ Some a.price
    on_left = price_here a rest a.bundle refl

    on_right : price_on (b ∷ others) a.bundle ≡ Some b.price
    on_right = price_here b others a.bundle (sym same)

-- ---- the walk

no_changes : ArePriceChanges [] [] []
no_changes = search (rules, AllPairs-nil, All-nil)

-- with a further bid on the left, by the rest with what is on the right
with_left : (a : Atom (List ℕ)) (left right : List (Atom (List ℕ))) → IsInOrder (a ∷ left) → IsInOrder right
    → ((others : List (Atom (List ℕ))) → IsInOrder others → ArePriceChanges left others (changes_of left others))
    → ArePriceChanges (a ∷ left) right (changes_of (a ∷ left) right)
with_left a left [] s t rest = past_left a left [] s (none_later a.bundle) (changes_of left []) (rest [] t)
with_left a left (b ∷ right) s t rest =
    by (bundle_cmp a.bundle b.bundle) refl (with_left a left right s (AllPairs-tail IsBefore b right t) rest)
  where
    by : (o : Ordering) → bundle_cmp a.bundle b.bundle ≡ o → ArePriceChanges (a ∷ left) right (changes_of (a ∷ left) right)
        → ArePriceChanges (a ∷ left) (b ∷ right) (match_ordering o (only_left a ∷ changes_of left (b ∷ right))
        (if_differs (on_both a b) (changes_of left right)) (only_right b ∷ changes_of (a ∷ left) right))
    by Less e found = past_left a left (b ∷ right) s (all_later a.bundle b right t e) (changes_of left (b ∷ right)) (rest (b ∷ right) t)
    by Equal e found =
        past_both a b left right s t (bundle_cmp_equal a.bundle b.bundle e) (changes_of left right) (rest right (AllPairs-tail IsBefore b right t))
    by Greater e found =
        past_right b right (a ∷ left) t (all_later b.bundle a left s (bundle_cmp_total.antisymm b.bundle a.bundle ∙ ap ordering_reverse e))
        (changes_of (a ∷ left) right) found

pub are_all : (left right : List (Atom (List ℕ))) → IsInOrder left → IsInOrder right → ArePriceChanges left right (changes_of left right)
are_all [] [] s t = no_changes
are_all [] (b ∷ right) s t = past_right b right [] t (none_later b.bundle) (changes_of [] right) (are_all [] right s (AllPairs-tail IsBefore b right t))
are_all (a ∷ left) right s t = with_left a left right s t (λ others u. are_all left others (AllPairs-tail IsBefore a left s) u)
