-- Two lists of atoms in order are walked side by side, bundle by bundle. What is still to be found are the changes of the two
-- rests: where the changes of the rests are given, the bundle that was walked past is put in front of them if its prices differ.
use Rattle.std.proofs.Common.{◌≡◌, ℕ, true, false, ◌⊎◌, inr, ⊎_elim, List, [], ◌∷◌, map, refl, sym, ◌∙◌, subst, Some, None, Less, arith, rules}
use Rattle.std.specs.Prelude.{◌≢◌, All, Contains}
use Rattle.std.specs.Ordering.{is_eq}
use Rattle.std.proofs.lemmas.List.Elements.{All-cons, All-head, All-tail, All-weaker}
use Rattle.goods_set.specs.Orders.{bundle_cmp}
use Rattle.valuation.specs.declared.atom.Atom.{Atom}
use Rattle.valuation.specs.Lemmas.Lists.{AllPairs-cons}
use Rattle.prune.specs.Lemmas.InOrder.{before_itself, same_cases}
use Rattle.prune.specs.Lemmas.Lists.{Contains-head, Contains-tail}
use Rattle.canon.specs.PriceChanges.{PlainChange, price_on, IsPriceChange, ArePriceChanges}
use Rattle.std.proofs.lemmas.Grind.{common_steps}

-- ---- the price on a bundle

-- the bundle comes before each atom
abbrev pub AreLater : List ℕ → List (Atom (List ℕ)) → Type 0
AreLater bundle atoms = All (λ (a : Atom (List ℕ)). bundle_cmp bundle a.bundle ≡ Less) atoms

pub price_here : (a : Atom (List ℕ)) (rest : List (Atom (List ℕ))) (bundle : List ℕ) → a.bundle ≡ bundle → price_on (a ∷ rest) bundle ≡ Some a.price
price_here a rest bundle e = grind (arith, common_steps, same_cases)

pub price_behind : (a : Atom (List ℕ)) (rest : List (Atom (List ℕ))) (bundle : List ℕ) → (a.bundle ≡ bundle → ⊥)
    → price_on (a ∷ rest) bundle ≡ price_on rest bundle
price_behind a rest bundle n = grind (arith, common_steps, same_cases)

-- a bundle that has a price comes after what all atoms come after
priced_later : (first bundle : List ℕ) (atoms : List (Atom (List ℕ))) → AreLater first atoms → (bundle_cmp first bundle ≡ Less) ⊎ (price_on atoms bundle ≡ None)
priced_later first bundle [] later = inr refl
priced_later first bundle (a ∷ rest) later =
    let P : Atom (List ℕ) → Type 0 = λ z. bundle_cmp first z.bundle ≡ Less in
    search (rules, All-head, price_behind, All-tail, same_cases, (priced_later first bundle rest (All-tail P a rest later)))

pub no_price : (bundle : List ℕ) (atoms : List (Atom (List ℕ))) → AreLater bundle atoms → price_on atoms bundle ≡ None
no_price bundle atoms later = ⊎_elim (search (rules, before_itself)) (λ (e : price_on atoms bundle ≡ None). e) (priced_later bundle bundle atoms later)

-- the first change is on a bundle before that of the second
abbrev pub IsEarlier : PlainChange → PlainChange → Type 0
IsEarlier c d = bundle_cmp c.bundle d.bundle ≡ Less

-- ---- past a bundle

-- the atoms without those on the bundle, which come after it
pub record IsBehind (bundle : List ℕ) (atoms rest : List (Atom (List ℕ))) : Type 0 where
  pub later : AreLater bundle rest
  pub same : (other : List ℕ) → (bundle ≡ other → ⊥) → price_on atoms other ≡ price_on rest other

-- each bundle whose prices in the rests differ comes later
changes_later : (bundle : List ℕ) (left right : List (Atom (List ℕ))) → AreLater bundle left → AreLater bundle right → (c : PlainChange)
    → IsPriceChange left right c → bundle_cmp bundle c.bundle ≡ Less
changes_later bundle left right l r c h = grind (arith, common_steps, priced_later)

module _ (bundle : List ℕ) (left left_rest right right_rest : List (Atom (List ℕ))) (behind_left : IsBehind bundle left left_rest)
    (behind_right : IsBehind bundle right right_rest) (changes : List PlainChange) (found : ArePriceChanges left_rest right_rest changes) where
  later_changes : All (λ (d : PlainChange). bundle_cmp bundle d.bundle ≡ Less) changes
  later_changes = search (rules, All-weaker, changes_later)

  -- a change of the rests is one of the whole lists
  still_changes : All (IsPriceChange left right) changes
  still_changes =
      All-weaker (λ (d : PlainChange). IsPriceChange left_rest right_rest d) (IsPriceChange left right)
      (λ d h.
      let l : bundle_cmp bundle d.bundle ≡ Less = changes_later bundle left_rest right_rest behind_left.later behind_right.later d h in
      let n : bundle ≡ d.bundle → ⊥ = λ e. before_itself bundle (subst (λ (zs : List ℕ). bundle_cmp bundle zs ≡ Less) (sym e) l) in
      record {
        on_left = h.on_left ∙ sym (behind_left.same d.bundle n);
        on_right = h.on_right ∙ sym (behind_right.same d.bundle n);
        differ = h.differ;
      }) changes found.each

  -- another bundle whose prices differ is among the changes of the rests
  found_behind : (other : List ℕ) → (bundle ≡ other → ⊥) → price_on left other ≢ price_on right other
      → Contains (map (λ (d : PlainChange). d.bundle) changes) other
  found_behind other n differ = search rules

  pub past_change : (c : PlainChange) → c.bundle ≡ bundle → IsPriceChange left right c → ArePriceChanges left right (c ∷ changes)
  past_change c e h = record {
    in_order = search (rules, AllPairs-cons, All, later_changes);
    each = All-cons (IsPriceChange left right) c changes h still_changes;
    all = λ other differ. ⊎_elim (λ (k : (bundle ≡ other) × (is_eq (bundle_cmp bundle other) ≡ true)).
        subst (λ (zs : List ℕ). Contains (c.bundle ∷ map (λ (d : PlainChange). d.bundle) changes) zs) (e ∙ k.0)
        (Contains-head c.bundle (map (λ (d : PlainChange). d.bundle) changes))) (λ (k : (bundle ≡ other → ⊥) × (is_eq (bundle_cmp bundle other) ≡ false)).
        Contains-tail c.bundle (map (λ (d : PlainChange). d.bundle) changes) other (found_behind other k.0 differ)) (same_cases bundle other);
  }

  pub past_same : price_on left bundle ≡ price_on right bundle → ArePriceChanges left right changes
  past_same e = search (rules, still_changes, found_behind, same_cases)
