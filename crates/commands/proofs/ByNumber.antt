-- Lists with an element for each number, of which one element is put.
use Rattle.commands.proofs.Common.{◌≡◌, ℕ, ◌<◌, ⊎_elim, List, length, map, get_or, set, replicate, sym, ap, ◌∙◌, arith, zero-add, range_with_len, cases_eq}
use Rattle.commands.proofs.Common.{length-map, length-replicate, length-set, get_or-map, get_or-replicate, get_or-set_same, get_or-set_other, fill_by_all}
use Rattle.commands.proofs.Common.{length-map-range_with_len, get_or-map-range_with_len}

pub by_number-replicate : {X : Type 0} (f : ℕ → X) (x : X) (n : ℕ) → ((k : ℕ) → x ≡ f k) → replicate n x ≡ map f (range_with_len 0 n)
by_number-replicate f x n same = fill_by_all f (replicate n x) n x (length-replicate n x) (λ k l. get_or-replicate n k x x l ∙ same k)

module _ {X : Type 0} (f : ℕ → X) (xs : List X) (n : ℕ) (is : xs ≡ map f (range_with_len 0 n)) where
  pub by_number-length : length xs ≡ n
  by_number-length = ap (length {A = X}) is ∙ length-map-range_with_len f 0 n

  by_number-at : (k : ℕ) (d : X) → k < n → get_or xs k d ≡ f k
  by_number-at k d l = ap (λ (ys : List X). get_or ys k d) is ∙ get_or-map-range_with_len f 0 n k k d l (zero-add k)

  pub by_number-same : (g : ℕ → X) (d : X) → ((k : ℕ) → g k ≡ f k) → xs ≡ map g (range_with_len 0 n)
  by_number-same g d same = fill_by_all g xs n d by_number-length (λ k l. by_number-at k d l ∙ sym (same k))

  pub by_number-set : (g : ℕ → X) (d : X) (i : ℕ) → i < n → (x : X) → g i ≡ x → ((k : ℕ) → (k ≡ i → ⊥) → g k ≡ f k) → set xs i x ≡ map g (range_with_len 0 n)
  by_number-set g d i l x is_new others =
      let long = by_number-length in
      fill_by_all g (set xs i x) n d (length-set xs i x ∙ long) (λ k m. ⊎_elim
      (λ (same : k ≡ i). rw same (get_or-set_same xs i x d (omega arith) ∙ sym is_new))
      (λ (differ : k ≡ i → ⊥). get_or-set_other xs i k x d differ ∙ by_number-at k d m ∙ sym (others k differ))
      (cases_eq k i))

-- elements that are seen as others
module _ {V X : Type 0} (seen : V → X) (vs : List V) (f : ℕ → X) (n : ℕ) (is : map seen vs ≡ map f (range_with_len 0 n)) where
  pub seen_by_number-length : length vs ≡ n
  seen_by_number-length = sym (length-map vs seen) ∙ by_number-length f (map seen vs) n is

  pub seen_by_number-at : (k : ℕ) (v : V) → k < n → v ≡ get_or vs k v → seen v ≡ f k
  seen_by_number-at k v l there =
      let long = seen_by_number-length in
      ap seen there ∙ sym (get_or-map seen vs k v (seen v) (omega arith)) ∙ by_number-at f (map seen vs) n is k (seen v) l
