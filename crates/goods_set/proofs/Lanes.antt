-- A loop that takes words eight at a time: what a fold of lanes says of each, and what the lanes are of the words.
use Rattle.goods_set.proofs.Common.{rules, ◌≡◌, ℕ, zero, suc, ◌+◌, ◌<◌, ◌≤◌, ◌≢◌, ⊎_elim, List, [], ◌∷◌, map, length, get_or, refl, sym, ap, ap₂, ◌∙◌}
use Rattle.goods_set.proofs.Common.{arith, w64, zip2, chunk, fold_l, put_chunk, bit_not, bit_and, bit_or, or_zero_l, le_or_l, le_or_r, cases_eq}
use Rattle.goods_set.proofs.Common.{cases_lt, get_or-map, length-map, length-chunk, get_or-chunk, length-zip2, get_or-zip2, get_or-put_chunk_below}
use Rattle.goods_set.proofs.Common.{get_or-put_chunk_at, get_or-put_chunk_above}

-- ---- an `|` of all lanes

pub fold_none : (xs : List ℕ) (a k : ℕ) → fold_l bit_or a xs ≡ 0 → k < length xs → (a ≡ 0) × (get_or xs k 0 ≡ 0)
fold_none [] a k e l = absurd (omega arith)
fold_none (x ∷ xs) a zero e l =
    let z : bit_or a x ≡ 0 = start xs (bit_or a x) e in
    search (rules, le_or_l, le_or_r)
  where
    start : (ys : List ℕ) (b : ℕ) → fold_l bit_or b ys ≡ 0 → b ≡ 0
    start [] b e = e
    start (y ∷ ys) b e = let z : bit_or b y ≡ 0 = start ys (bit_or b y) e in let m : b ≤ bit_or b y = le_or_l b y in omega arith
fold_none (x ∷ xs) a (suc k) e l = search (rules, le_or_l, (fold_none xs (bit_or a x) k e (omega arith)))

pub record Somewhere (P : ℕ → Type 0) (n : ℕ) : Type 0 where
  pub index : ℕ
  pub within : index < n
  pub holds : P index

pub fold_some : (xs : List ℕ) (a : ℕ) → a ≡ 0 → fold_l bit_or a xs ≢ 0 → Somewhere (λ k. get_or xs k 0 ≢ 0) (length xs)
fold_some [] a z n = absurd (n z)
fold_some (x ∷ xs) a z n = ⊎_elim (λ (e : x ≡ 0).
    let r : Somewhere (λ k. get_or xs k 0 ≢ 0) (length xs) = fold_some xs (bit_or a x) (ap₂ (λ (b c : ℕ). bit_or b c) z e ∙ or_zero_l 0) n in
    let l : r.index < length xs = r.within in
    record { index = suc r.index; within = omega arith; holds = r.holds }) (search rules) (cases_eq x 0)

-- ---- the lanes are the words

-- the vector vs holds f of each of the eight words from i on
pub record AreLanes (f : ℕ → ℕ → ℕ) (xs ys : List ℕ) (i : ℕ) (vs : List ℕ) : Type 0 where
  pub many : length vs ≡ 8
  pub lane : (k : ℕ) → k < 8 → get_or vs k 0 ≡ f (get_or xs (i + k) 0) (get_or ys (i + k) 0)

pub lanes_outside : (xs ys : List ℕ) (i : ℕ) → i + 8 ≤ length xs → length xs ≡ length ys
    → AreLanes (λ x y. bit_and x (bit_not w64 y)) xs ys i (zip2 bit_and (chunk i 8 xs) (map (bit_not w64) (chunk i 8 ys)))
lanes_outside xs ys i l e =
    let m : length (chunk i 8 xs) ≡ 8 = length-chunk i 8 xs l in
    let n : length (chunk i 8 ys) ≡ 8 = length-chunk i 8 ys (omega arith) in
    let o : length (map (bit_not w64) (chunk i 8 ys)) ≡ 8 = length-map (chunk i 8 ys) (bit_not w64) ∙ n in
    record {
      many = length-zip2 bit_and (chunk i 8 xs) (map (bit_not w64) (chunk i 8 ys)) (m ∙ sym o) ∙ m;
      lane = λ k b. get_or-zip2 bit_and (chunk i 8 xs) (map (bit_not w64) (chunk i 8 ys)) k 0 0 0 (omega arith) (omega arith)
          ∙ ap₂ (λ (x y : ℕ). bit_and x y) (get_or-chunk i 8 xs k 0 b) (get_or-map (bit_not w64) (chunk i 8 ys) k 0 0 (omega arith)
          ∙ ap (bit_not w64) (get_or-chunk i 8 ys k 0 b));
    }

pub lanes_shared : (xs ys : List ℕ) (i : ℕ) → i + 8 ≤ length xs → length xs ≡ length ys → AreLanes bit_and xs ys i (zip2 bit_and (chunk i 8 xs) (chunk i 8 ys))
lanes_shared xs ys i l e =
    let m : length (chunk i 8 xs) ≡ 8 = length-chunk i 8 xs l in
    let n : length (chunk i 8 ys) ≡ 8 = length-chunk i 8 ys (omega arith) in
    record {
      many = length-zip2 bit_and (chunk i 8 xs) (chunk i 8 ys) (m ∙ sym n) ∙ m;
      lane = λ k b. get_or-zip2 bit_and (chunk i 8 xs) (chunk i 8 ys) k 0 0 0 (omega arith) (omega arith)
          ∙ ap₂ (λ (x y : ℕ). bit_and x y) (get_or-chunk i 8 xs k 0 b) (get_or-chunk i 8 ys k 0 b);
    }

-- the step of a loop that has found no word at which f is not 0
pub none_more : (f : ℕ → ℕ → ℕ) (xs ys : List ℕ) (i : ℕ) (vs : List ℕ) → AreLanes f xs ys i vs → fold_l bit_or 0 vs ≡ 0
    → ((k : ℕ) → k < i → f (get_or xs k 0) (get_or ys k 0) ≡ 0) → (k : ℕ) → k < i + 8 → f (get_or xs k 0) (get_or ys k 0) ≡ 0
none_more f xs ys i vs v e h k l = search (rules, cases_lt, fold_none)

-- and its end where there is one
pub some_here : (f : ℕ → ℕ → ℕ) (xs ys : List ℕ) (i : ℕ) (vs : List ℕ) → AreLanes f xs ys i vs → i + 8 ≤ length xs → fold_l bit_or 0 vs ≢ 0
    → Somewhere (λ k. f (get_or xs k 0) (get_or ys k 0) ≢ 0) (length xs)
some_here f xs ys i vs v l n =
    let s : Somewhere (λ k. get_or vs k 0 ≢ 0) (length vs) = fold_some vs 0 refl n in
    search rules

-- the step of a loop that writes f of each word: what is written, and what is not yet
pub written_more : (f : ℕ → ℕ → ℕ) (first xs ys : List ℕ) (i : ℕ) (vs : List ℕ) → AreLanes f xs ys i vs → i + 8 ≤ length xs
    → ((k : ℕ) → k < i → get_or xs k 0 ≡ f (get_or first k 0) (get_or ys k 0)) → ((k : ℕ) → i ≤ k → get_or xs k 0 ≡ get_or first k 0) → (k : ℕ) → k < i + 8
    → get_or (put_chunk i xs vs) k 0 ≡ f (get_or first k 0) (get_or ys k 0)
written_more f first xs ys i vs v l h r k b = search (rules, get_or-put_chunk_below, cases_lt, get_or-put_chunk_at)

pub unwritten_more : (f : ℕ → ℕ → ℕ) (first xs ys : List ℕ) (i : ℕ) (vs : List ℕ) → AreLanes f xs ys i vs → ((k : ℕ) → i ≤ k → get_or xs k 0 ≡ get_or first k 0)
    → (k : ℕ) → i + 8 ≤ k → get_or (put_chunk i xs vs) k 0 ≡ get_or first k 0
unwritten_more f first xs ys i vs v r k b = let m : length vs ≡ 8 = v.many in get_or-put_chunk_above i xs vs k 0 (omega arith) ∙ r k (omega arith)
