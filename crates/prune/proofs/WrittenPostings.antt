-- What is listed at a good, in vectors of postings that are read or written.
use Rattle.prune.proofs.Common.{rules, ◌≡◌, ℕ, zero, suc, ◌<◌, set, List, [], ◌∷◌, ◌++◌, length, get_or, refl, sym, ap, ◌∙◌, Vec, map-set, get_or-map}
use Rattle.prune.proofs.Common.{length-map, Posting, lists_of, listed_at}

pub listed_there : (vectors : List (Vec Posting)) (good : ℕ) (v : Vec Posting) → good < length vectors → v ≡ get_or vectors good v
    → listed_at (lists_of vectors) good ≡ v.items
listed_there vectors good v l e = get_or-map (λ (v : Vec Posting). v.items) vectors good v [] l ∙ ap (λ (v : Vec Posting). v.items) (sym e)

pub listed-set_same : (vectors : List (Vec Posting)) (good : ℕ) (v : Vec Posting) → good < length vectors → listed_at (lists_of (set vectors good v)) good
    ≡ v.items
listed-set_same vectors good v l = search (rules, length-map, map-set)

-- a list that is added is empty
pub listed-pushed : (vectors : List (Vec Posting)) (v : Vec Posting) (k : ℕ) → v.items ≡ [] → listed_at (lists_of (vectors ++ v ∷ [])) k
    ≡ listed_at (lists_of vectors) k
listed-pushed [] v zero e = e
listed-pushed [] v (suc k) e = refl
listed-pushed (x ∷ xs) v zero e = refl
listed-pushed (x ∷ xs) v (suc k) e = listed-pushed xs v k e

pub listed-set_other : (vectors : List (Vec Posting)) (good : ℕ) (v : Vec Posting) (g : ℕ) → (g ≡ good → ⊥) → listed_at (lists_of (set vectors good v)) g
    ≡ listed_at (lists_of vectors) g
listed-set_other vectors good v g n = search (rules, map-set)
