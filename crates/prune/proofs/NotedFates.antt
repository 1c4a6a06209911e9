-- What becomes of best bids along a pruning's loop. Later points are not below earlier bids, so what was noted by the points so far is right by all
-- points; and what a turn finds is what becomes of its bid.
use Rattle.prune.proofs.Common.{rules, ◌≡◌, ℕ, true, false, leb, List, [], ◌∷◌, ◌++◌, length, map, refl, sym, ap, ◌∙◌, subst, Some, None, ◌≤◌, take, ap₂, All}
use Rattle.prune.proofs.Common.{Contains, Option, IfSome, is_some, Vec, find, range_with_len, map_push, take_all, map-map, All-contains, All-push, Atom}
use Rattle.prune.proofs.Common.{SearchKind, or_value, atoms_of, best_bids, indices_below, plain_fate, AreBestBids, is_inside_at, first_dominating_index}
use Rattle.prune.proofs.Common.{atom_at, atoms_inside, found_inside, indices_inside, or_fate-push, xor_fate-push, All-from_Contains, filter_same_on}
use Rattle.prune.proofs.Common.{find_filter, map_same_on, Contains-head, Contains-tail, IsOnBundle, in_range, atoms_below, greatest_price, is_below, IsBefore}
use Rattle.prune.specs.Fates.{found_points, or_fate, xor_fate}
use Rattle.prune.proofs.Pruning.{HasRisingBundle, later_not_below, not_below_itself, rising_prefix}
use Rattle.prune.proofs.Refusals.{best_searched}
use Rattle.prune.proofs.Results.{IsTurn, best_price, turn_before, turn_below, turn_inside, turn_rising}

-- ---- one bid more

module _ {F : Type 0} (fate : List (Atom (List ℕ)) → Atom (List ℕ) → F)
    (push : (points : List (Atom (List ℕ))) (x bid : Atom (List ℕ)) → is_below x.bundle bid.bundle ≡ false → fate (points ++ x ∷ []) bid ≡ fate points bid)
    (bids done : List (Atom (List ℕ))) (x : Atom (List ℕ)) (rest kept : List (Atom (List ℕ))) (turn : IsTurn bids done x rest)
  where
    -- it is dropped
    pub noted_dropped : (noted : List F) (found : F) → found ≡ fate kept x → noted ≡ map (fate kept) done
        → noted ++ found ∷ [] ≡ map (fate kept) (done ++ x ∷ [])
    noted_dropped noted found e h = ap (λ (zs : List F). zs ++ found ∷ []) h ∙ ap (λ f. map (fate kept) done ++ f ∷ []) e ∙ sym (map_push (fate kept) done x)

    -- it is kept
    pub noted_kept : (noted : List F) (found : F) → found ≡ fate kept x → noted ≡ map (fate kept) done
        → noted ++ found ∷ [] ≡ map (fate (kept ++ x ∷ [])) (done ++ x ∷ [])
    noted_kept noted found e h =
        noted_dropped noted found e h
        ∙ map_same_on (fate kept) (fate (kept ++ x ∷ [])) (done ++ x ∷ []) (All-push (λ b. fate kept b ≡ fate (kept ++ x ∷ []) b) done x
        (All-from_Contains (λ b. fate kept b ≡ fate (kept ++ x ∷ []) b) done (λ b c. sym (push kept x b (later_not_below b x
        (All-contains HasRisingBundle done b (rising_prefix done (x ∷ rest) turn.rising) c) (turn_rising bids done x rest turn)
        (All-contains (λ a. IsBefore a x) done b (turn_before bids done x rest turn) c)))))
        (sym (push kept x x (not_below_itself x.bundle))))

-- ---- what a turn finds

module _ (bids done : List (Atom (List ℕ))) (x : Atom (List ℕ)) (rest kept : List (Atom (List ℕ))) (turn : IsTurn bids done x rest)
    (among : All (Contains done) kept)
  where
    inside_indices : indices_inside kept x.bundle ≡ indices_below kept x.bundle
    inside_indices =
        filter_same_on (is_inside_at kept x.bundle) (λ index. is_below (atom_at kept index).bundle x.bundle) (range_with_len 0 (length kept))
        (All-from_Contains (λ index. is_inside_at kept x.bundle index ≡ is_below (atom_at kept index).bundle x.bundle) (range_with_len 0 (length kept))
        (λ index c. turn_inside bids done x rest kept turn among index (record { bundle = []; price = 0 }) (in_range (length kept) index c)))

    pub found_is_fate : (kind : SearchKind) (found : Option (Vec ℕ)) → is_some found ≡ leb x.price (or_value (atoms_inside kept x.bundle) x.bundle)
        → IfSome found (λ indices. indices.items ≡ found_inside kind kept x.bundle x.price) → plain_fate found ≡ or_fate kind kept x
    unfolding or_fate found_points
    found_is_fate kind None answer indices =
        let none : leb x.price (or_value (atoms_below kept x.bundle) x.bundle) ≡ false =
        ap (λ (zs : List (Atom (List ℕ))). leb x.price (or_value zs x.bundle)) (sym (turn_below bids done x rest kept turn among)) ∙ sym answer in
        rw none refl
    found_is_fate kind (Some found) answer indices =
        let some : leb x.price (or_value (atoms_below kept x.bundle) x.bundle) ≡ true =
        ap (λ (zs : List (Atom (List ℕ))). leb x.price (or_value zs x.bundle)) (sym (turn_below bids done x rest kept turn among)) ∙ sym answer in
        rw (some, sym inside_indices, sym (turn_below bids done x rest kept turn among)) (ap Some indices)

    -- what was noted of the OR bidder
    module _ (kind searched : SearchKind) (same : searched ≡ kind) (noted more : List (Option (Vec ℕ))) (found : Option (Vec ℕ))
        (one : more ≡ noted ++ found ∷ [])
        (answer : is_some found ≡ leb x.price (or_value (atoms_inside kept x.bundle) x.bundle))
        (indices : IfSome found (λ indices. indices.items ≡ found_inside searched kept x.bundle x.price))
        (so_far : map plain_fate noted ≡ map (or_fate kind kept) done)
      where
        this : plain_fate found ≡ or_fate kind kept x
        this = subst (λ (k : SearchKind). plain_fate found ≡ or_fate k kept x) same (found_is_fate searched found answer indices)

        pushed : map plain_fate more ≡ map plain_fate noted ++ plain_fate found ∷ []
        pushed = ap (map plain_fate) one ∙ map_push plain_fate noted found

        pub or_noted_dropped : map plain_fate more ≡ map (or_fate kind kept) (done ++ x ∷ [])
        or_noted_dropped =
            pushed ∙ noted_dropped (or_fate kind) (or_fate-push kind) bids done x rest kept turn (map plain_fate noted) (plain_fate found) this so_far

        pub or_noted_kept : map plain_fate more ≡ map (or_fate kind (kept ++ x ∷ [])) (done ++ x ∷ [])
        or_noted_kept = pushed ∙ noted_kept (or_fate kind) (or_fate-push kind) bids done x rest kept turn (map plain_fate noted) (plain_fate found) this so_far

    pub dominating_is_fate : first_dominating_index kept x.bundle x.price ≡ xor_fate kept x
    unfolding xor_fate
    dominating_is_fate =
        sym (find_filter (λ index. leb x.price (atom_at kept index).price) (is_inside_at kept x.bundle) (range_with_len 0 (length kept)))
        ∙ ap (find (λ index. leb x.price (atom_at kept index).price)) inside_indices

    -- what was noted of an XOR bidder
    module _ (noted more : List (Option ℕ)) (found : Option ℕ) (one : more ≡ noted ++ found ∷ [])
        (answer : found ≡ first_dominating_index kept x.bundle x.price) (so_far : noted ≡ map (xor_fate kept) done)
      where
        pub xor_noted_dropped : more ≡ map (xor_fate kept) (done ++ x ∷ [])
        xor_noted_dropped = one ∙ noted_dropped xor_fate xor_fate-push bids done x rest kept turn noted found (answer ∙ dominating_is_fate) so_far

        pub xor_noted_kept : more ≡ map (xor_fate (kept ++ x ∷ [])) (done ++ x ∷ [])
        xor_noted_kept = one ∙ noted_kept xor_fate xor_fate-push bids done x rest kept turn noted found (answer ∙ dominating_is_fate) so_far

-- ---- all bids are done

pub best_bids_are : (goods : ℕ) (bids best : List (Atom (List ℕ))) → All (IsOnBundle goods) bids → AreBestBids bids best → best ≡ best_bids goods bids
best_bids_are goods bids best on b = sym (map_same best (λ a c. best_price bids best b a c)) ∙ sym (search (rules, map-map))
    ∙ ap (map (λ (bundle : List ℕ). record { bundle = bundle; price = greatest_price bids bundle })) (best_searched goods bids best on b)
  where
    map_same : (atoms : List (Atom (List ℕ))) → ((a : Atom (List ℕ)) → Contains atoms a → greatest_price bids a.bundle ≡ a.price)
        → map (λ (a : Atom (List ℕ)). record { bundle = a.bundle; price = greatest_price bids a.bundle }) atoms ≡ atoms
    map_same [] h = refl
    map_same (a ∷ atoms) h =
        ap₂ (λ (n : ℕ) (zs : List (Atom (List ℕ))). record { bundle = a.bundle; price = n } ∷ zs) (h a (Contains-head a atoms))
        (map_same atoms (λ b c. h b (Contains-tail a atoms b c)))

-- what was noted is what becomes of all, by all points
pub noted_all : {S F : Type 0} (goods : S → List ℕ) (fate : List (Atom (List ℕ)) → Atom (List ℕ) → F) (n : ℕ) (bids points : List (Atom (List ℕ)))
    (best kept result : List (Atom S)) (index : ℕ) (noted : List F) → All (IsOnBundle n) bids → AreBestBids bids (atoms_of goods best) → length best ≤ index
    → result ≡ kept → atoms_of goods result ≡ points → noted ≡ map (fate (atoms_of goods kept)) (atoms_of goods (take index best))
    → noted ≡ map (fate points) (best_bids n bids)
noted_all {S} goods fate n bids points best kept result index noted on b l truncated are h =
    h ∙ ap (λ (zs : List (Atom S)). map (fate (atoms_of goods kept)) (atoms_of goods zs)) (take_all index best l)
    ∙ ap (map (fate (atoms_of goods kept))) (best_bids_are n bids (atoms_of goods best) on b)
    ∙ ap (λ (zs : List (Atom (List ℕ))). map (fate zs) (best_bids n bids)) (ap (atoms_of goods) (sym truncated) ∙ are)
