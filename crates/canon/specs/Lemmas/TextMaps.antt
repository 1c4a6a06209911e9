-- What a map from texts has, after a value was put there for a text: that value for it, and for each other text what it had.
use Rattle.std.proofs.Common.{◌≡◌, ℕ, Bool, true, false, cond, bytes_eq, List, Some, ⊎_elim, rules}
use Rattle.std.specs.BTreeMap.{BTreeMap, UpdatesBy, get_by}
use Rattle.std.specs.Cmp.Lexicographic.{slice_cmp}
use Rattle.std.specs.Map.{IsKeyTest, AreApart, KeepsOthers, lookup}
use Rattle.std.specs.Ordering.{is_eq, nat_cmp}
use Rattle.std.proofs.lemmas.Bool.{cases_Bool, cond-true, cond-false}
use Rattle.std.proofs.lemmas.Map.Text.{is_eq-slice_cmp}

-- whether two texts are equal, by their order
abbrev pub same_order : List ℕ → List ℕ → Bool
same_order one other = is_eq (slice_cmp nat_cmp one other)

same_test : (text one other : List ℕ) → same_order text one ≡ true → same_order text other ≡ same_order one other
same_test text one other e = search (rules, is_eq-slice_cmp)

apart_texts : (one other key : List ℕ) → bytes_eq one other ≡ false → same_order one key ≡ true → same_order other key ≡ false
apart_texts one other key n e = search (rules, is_eq-slice_cmp)

-- of keys that are seen as texts
module _ {K : Type 0} (seen : K → List ℕ) where
  abbrev key_eq : K → K → Bool
  key_eq one other = same_order (seen one) (seen other)

  other_entries : {V : Type 0} (test : K → Bool) (old new : List (K × V)) → KeepsOthers key_eq test old new → (other : K → Bool) → IsKeyTest key_eq other
      → AreApart test other → lookup other new ≡ lookup other old
  unfolding KeepsOthers
  other_entries test old new h = h

  pub updated : {V : Type 0} (old new : BTreeMap K V) (text : List ℕ) (value : V)
      → UpdatesBy (λ one other. slice_cmp nat_cmp (seen one) (seen other)) (λ key. slice_cmp nat_cmp text (seen key)) old new (Some value)
      → (other : List ℕ) → get_by (λ key. slice_cmp nat_cmp other (seen key)) new
      ≡ cond (bytes_eq text other) (Some value) (get_by (λ key. slice_cmp nat_cmp other (seen key)) old)
  updated old new text value h other = ⊎_elim (search (rules, cond-true)) (search (rules, other_entries, same_test, apart_texts, cond-false))
      (cases_Bool (bytes_eq text other))
