-- What a pruning that is done has kept: the points, with the values of all bids. A turn on one more best bid keeps this of the bids
-- so far, and in the end the best bids are done, which have the points and the values of all.
use Rattle.prune.proofs.Common.{rules, ◌≡◌, ℕ, ◌<◌, ◌≤◌, Bool, true, false, leb, List, [], ◌∷◌, ◌++◌, length, sym, ap, ◌∙◌, subst, arith, le_antisymm, All}
use Rattle.prune.proofs.Common.{Contains, filter, leb-true, leb-false, All-contains, All-weaker, Contains-append_left, Contains-append_right}
use Rattle.prune.proofs.Common.{is_inside, inside_refl, Atom}
use Rattle.prune.proofs.Common.{is_below, atoms_below, greatest_price}
use Rattle.prune.proofs.Common.{zero_or_more, Contains-head, All-from_Contains, filter_same_on, IsAtom, ComesNext, IsBehind, IsBefore}
use Rattle.prune.proofs.Common.{IsInOrder, same_bundle_same_atom}
use Rattle.prune.proofs.Common.{greatest_price-member, greatest_price-reached}
use Rattle.prune.proofs.Common.{AreBestBids, IsValue, kept_are_points, points_same, points_where}
use Rattle.prune.proofs.Pruning.{HasRisingBundle, IsKept, IsKept-reached, IsKept-missed, inside_below, before_next, rising_prefix}

-- ---- one bid more

-- bids in order, of which some are done
pub record IsTurn (bids done : List (Atom (List ℕ))) (x : Atom (List ℕ)) (rest : List (Atom (List ℕ))) : Type 0 where
  pub best : AreBestBids bids (done ++ x ∷ rest)
  pub rising : All HasRisingBundle (done ++ x ∷ rest)

pub turn_before : (bids done : List (Atom (List ℕ))) (x : Atom (List ℕ)) (rest : List (Atom (List ℕ))) → IsTurn bids done x rest → All (λ a. IsBefore a x) done
turn_before bids done x rest t = before_next done x rest t.best.in_order

-- the bid comes behind all kept ones
pub turn_behind : (bids done : List (Atom (List ℕ))) (x : Atom (List ℕ)) (rest kept : List (Atom (List ℕ))) → IsTurn bids done x rest → All (Contains done) kept
    → IsBehind x.bundle kept
turn_behind bids done x rest kept t among =
    All-weaker (Contains done) (λ a. IsBefore a x) (λ a c. All-contains (λ a. IsBefore a x) done a (turn_before bids done x rest t) c) kept among

pub turn_rising : (bids done : List (Atom (List ℕ))) (x : Atom (List ℕ)) (rest : List (Atom (List ℕ))) → IsTurn bids done x rest → HasRisingBundle x
turn_rising bids done x rest t = All-contains HasRisingBundle (done ++ x ∷ rest) x t.rising (Contains-append_right done (x ∷ rest) x (Contains-head x rest))

pub turn_among : (bids done : List (Atom (List ℕ))) (x : Atom (List ℕ)) (rest : List (Atom (List ℕ))) → IsTurn bids done x rest → Contains bids x
turn_among bids done x rest t = All-contains (Contains bids) (done ++ x ∷ rest) x t.best.among (Contains-append_right done (x ∷ rest) x (Contains-head x rest))

pub turn_positive : (bids done : List (Atom (List ℕ))) (x : Atom (List ℕ)) (rest : List (Atom (List ℕ))) → IsTurn bids done x rest → 0 < x.price
turn_positive bids done x rest t =
    All-contains (λ b. 0 < b.price) (done ++ x ∷ rest) x t.best.positive (Contains-append_right done (x ∷ rest) x (Contains-head x rest))

-- the kept atoms inside the bundle are those below it
pub turn_inside : (bids done : List (Atom (List ℕ))) (x : Atom (List ℕ)) (rest kept : List (Atom (List ℕ))) → IsTurn bids done x rest → All (Contains done) kept
    → All (λ a. is_inside a.bundle x.bundle ≡ is_below a.bundle x.bundle) kept
turn_inside bids done x rest kept t among =
    let first = rising_prefix done (x ∷ rest) t.rising in
    inside_below kept x
    (All-weaker (Contains done) HasRisingBundle (λ a c. All-contains HasRisingBundle done a first c) kept among)
    (turn_rising bids done x rest t)
    (All-weaker (Contains done) (λ a. IsBefore a x) (λ a c. All-contains (λ a. IsBefore a x) done a (turn_before bids done x rest t) c) kept among)

pub turn_below : (bids done : List (Atom (List ℕ))) (x : Atom (List ℕ)) (rest kept : List (Atom (List ℕ))) → IsTurn bids done x rest → All (Contains done) kept
    → filter (λ a. is_inside a.bundle x.bundle) kept ≡ atoms_below kept x.bundle
turn_below bids done x rest kept t among = search (rules, filter_same_on, turn_inside)

-- the bid comes next
pub turn_next : (n : ℕ) (bids done : List (Atom (List ℕ))) (x : Atom (List ℕ)) (rest kept : List (Atom (List ℕ))) → IsTurn bids done x rest
    → All (IsAtom n) bids → IsInOrder kept → All (Contains done) kept → ComesNext kept x.bundle
turn_next n bids done x rest kept t are order among = record {
  in_order = order;
  behind = turn_behind bids done x rest kept t among;
  some = (All-contains (IsAtom n) bids x are (turn_among bids done x rest t)).nonempty;
  each = All-weaker (Contains done) (λ a. 0 < length a.bundle)
      (λ a c. (All-contains (IsAtom n) bids a are (All-contains (Contains bids) (done ++ x ∷ rest) a t.best.among
      (Contains-append_left done (x ∷ rest) a c))).nonempty)
      kept among;
}

-- ---- all bids are done

-- each bid is dominated by what is kept
all_dominated : (value : List ℕ → ℕ) (bids best : List (Atom (List ℕ))) → AreBestBids bids best → All (λ a. a.price ≤ value a.bundle) best
    → All (λ a. a.price ≤ value a.bundle) bids
all_dominated value bids best b dominated = search (rules, All-from_Contains, All-contains, zero_or_more)

module _ {X : Type 0} {On : ℕ → Atom (List ℕ) → Type 0} {value : List (Atom (List ℕ)) → List ℕ → ℕ} {Splits : List ℕ → X → Type 0}
    {worth : (List ℕ → ℕ) → List ℕ → X → ℕ} {passes : ℕ → List (Atom (List ℕ)) → List ℕ → Bool} (V : IsValue On value Splits worth passes) where
  -- the kept bids reach the price of the next one
  pub bid_reached : (bids done : List (Atom (List ℕ))) (x : Atom (List ℕ)) (rest kept : List (Atom (List ℕ))) → IsTurn bids done x rest → IsKept V done kept
      → true ≡ leb x.price (value (filter (λ a. is_inside a.bundle x.bundle) kept) x.bundle) → IsKept V (done ++ x ∷ []) kept
  bid_reached bids done x rest kept t k e =
      IsKept-reached V done kept x k (subst (λ (zs : List (Atom (List ℕ))). x.price ≤ value zs x.bundle)
      (turn_below bids done x rest kept t k.among) (leb-true _ _ (sym e)))

  pub bid_missed : (bids done : List (Atom (List ℕ))) (x : Atom (List ℕ)) (rest kept : List (Atom (List ℕ))) → IsTurn bids done x rest → IsKept V done kept
      → false ≡ leb x.price (value (filter (λ a. is_inside a.bundle x.bundle) kept) x.bundle) → IsKept V (done ++ x ∷ []) (kept ++ x ∷ [])
  bid_missed bids done x rest kept t k e =
      IsKept-missed V done kept x (rising_prefix done (x ∷ rest) t.rising) (turn_rising bids done x rest t) (turn_before bids done x rest t) k
      (subst (λ (zs : List (Atom (List ℕ))). value zs x.bundle < x.price) (turn_below bids done x rest kept t k.among) (leb-false _ _ (sym e)))

  -- all bids are done
  pub record ArePoints (bids kept : List (Atom (List ℕ))) : Type 0 where
    pub in_order : IsInOrder kept
    pub among : All (Contains bids) kept
    pub values : (bundle : List ℕ) → value kept bundle ≡ value bids bundle
    pub points : (goods : ℕ) → All (On goods) bids → kept ≡ points_where (passes goods bids) (value bids) goods

  pub all_done : (n : ℕ) (bids best kept : List (Atom (List ℕ))) → All (On n) bids → AreBestBids bids best → IsKept V best kept → ArePoints bids kept
  all_done n bids best kept on b k =
      let among = All-weaker (Contains best) (Contains bids) (λ a c. All-contains (Contains bids) best a b.among c) kept k.among in
      let kept_on : (goods : ℕ) → All (On goods) bids → All (On goods) kept =
      λ goods o. All-weaker (Contains bids) (On goods) (λ a c. All-contains (On goods) bids a o c) kept among in
      let values : (bundle : List ℕ) → value kept bundle ≡ value bids bundle = λ bundle. le_antisymm
      (V.dominated n bids kept on (All-weaker (Contains bids) (λ a. a.price ≤ value bids a.bundle)
      (λ a c. V.member bids a c a.bundle (inside_refl a.bundle)) kept among) bundle)
      (V.dominated n kept bids (kept_on n on) (all_dominated (value kept) bids best b k.dominated) bundle) in
      record {
        in_order = k.in_order;
        among = among;
        values = values;
        points = λ goods o. kept_are_points V goods kept k.in_order (kept_on goods o) k.short ∙ points_same V goods kept bids (λ bundle _. values bundle);
      }

-- ---- heavy bundles

-- on a bundle with a price above 0 is the best bid, of the greatest price
pub best_on : (bids best : List (Atom (List ℕ))) → AreBestBids bids best → (bundle : List ℕ) → 0 < greatest_price bids bundle → (b : Atom (List ℕ))
    × Contains best b × (b.bundle ≡ bundle) × (b.price ≡ greatest_price bids bundle)
best_on bids best b bundle l =
    let r = greatest_price-reached bids bundle l in
    let price : r.0.price ≡ greatest_price bids bundle = r.3 in
    let c = All-contains (λ a. 0 < a.price → (b : Atom (List ℕ)) × Contains best b × (b.bundle ≡ a.bundle) × (a.price ≤ b.price)) bids r.0 b.dominates r.1
    (omega arith) in
    let e : c.0.bundle ≡ bundle = c.2 ∙ r.2 in
    let low : r.0.price ≤ c.0.price = c.3 in
    let high : c.0.price ≤ greatest_price bids bundle =
    subst (λ (xs : List ℕ). c.0.price ≤ greatest_price bids xs) e (greatest_price-member bids c.0 (All-contains (Contains bids) best c.0 b.among c.1)) in
    (c.0, c.1, e, omega arith)

pub best_price : (bids best : List (Atom (List ℕ))) → AreBestBids bids best → (b : Atom (List ℕ)) → Contains best b → greatest_price bids b.bundle ≡ b.price
best_price bids best m b c =
    let low : b.price ≤ greatest_price bids b.bundle = greatest_price-member bids b (All-contains (Contains bids) best b m.among c) in
    let positive : 0 < b.price = All-contains (λ b. 0 < b.price) best b m.positive c in
    let r = best_on bids best m b.bundle (omega arith) in
    let e : r.0 ≡ b = same_bundle_same_atom best m.in_order r.0 b r.1 c r.2 in
    sym r.3 ∙ ap (λ (z : Atom (List ℕ)). z.price) e
