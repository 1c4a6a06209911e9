-- The bids of bidders on a bundle, bid by bid and bidder by bidder. A bidder has one bid on a bundle at most.
use Rattle.analysis.proofs.Common.{common_steps, rules, ◌≡◌, ◌<◌, ◌+◌, ℕ, zero, suc, Bool, true, false, cond, List, [], ◌∷◌, ◌++◌, length, get_or, map, take}
use Rattle.analysis.proofs.Common.{Some, Less, slice_get, refl, sym, ap, ◌∙◌, arith, ⊎_elim, append_assoc, All, is_some, filter, is_eq, cases_Bool, get_or-map}
use Rattle.analysis.proofs.Common.{false_from_ne_true, length-map, map_push, take_more, All-cons, All-nil, All-weaker, filter-append, get_or_from_slice_get}
use Rattle.analysis.proofs.Common.{slice_get_within, bundle_cmp, bundle_cmp_equal, bundle_cmp_refl, PlainBid, Atom, atom_of, AllPairs-head, AllPairs-tail}
use Rattle.analysis.proofs.Common.{IsBefore, IsInOrder, offers, bidder_at, bidders_on, price_on, is_on}
use Rattle.analysis.proofs.Comparing.LawsLists.{none_pass}
use Rattle.canon.specs.Lemmas.Finding.{equal_from}

-- the bidder, once for each bid on the bundle
abbrev pub once_each : ℕ → List ℕ → List (Atom (List ℕ)) → List ℕ
once_each index bundle atoms = map (λ _. index) (filter (is_on bundle) atoms)

once_each-append : (index : ℕ) (bundle : List ℕ) (xs ys : List (Atom (List ℕ)))
    → once_each index bundle (xs ++ ys) ≡ once_each index bundle xs ++ once_each index bundle ys
once_each-append index bundle [] ys = refl
once_each-append index bundle (x ∷ xs) ys = at (is_on bundle x) refl (once_each-append index bundle xs ys)
  where
    at : (b : Bool) → is_on bundle x ≡ b → once_each index bundle (xs ++ ys) ≡ once_each index bundle xs ++ once_each index bundle ys
        → once_each index bundle (x ∷ (xs ++ ys)) ≡ once_each index bundle (x ∷ xs) ++ once_each index bundle ys
    at b t e = rw t (search rules)

once_each-one : (index : ℕ) (bundle : List ℕ) (x : Atom (List ℕ)) → once_each index bundle (x ∷ []) ≡ cond (is_on bundle x) (index ∷ []) []
once_each-one index bundle x = search (rules)

-- one more bid of a bidder
pub one_more_bid : (index : ℕ) (bids : List PlainBid) (i : ℕ) (bid : PlainBid) → slice_get bids i ≡ Some bid → (bundle first before after : List ℕ)
    → before ≡ first ++ once_each index bundle (offers (take i bids)) → after ≡ before ++ cond (is_eq (bundle_cmp bid.goods bundle)) (index ∷ []) []
    → after ≡ first ++ once_each index bundle (offers (take (i + 1) bids))
one_more_bid index bids i bid e bundle first before after so_far more = let at : get_or bids i bid ≡ bid = get_or_from_slice_get bids i bid bid e in
    let list : offers (take (i + 1) bids) ≡ offers (take i bids) ++ atom_of bid ∷ [] =
    ap offers (search (rules, take_more, slice_get_within)) ∙ map_push atom_of (take i bids) bid in
    search (rules, once_each-one, append_assoc, once_each-append)

-- its bundle comes behind those before it
pub one_more_bundle_of : (bids : List PlainBid) (i : ℕ) (bid : PlainBid) → slice_get bids i ≡ Some bid
    → map (λ a. a.bundle) (offers (take (i + 1) bids)) ≡ map (λ a. a.bundle) (offers (take i bids)) ++ bid.goods ∷ []
one_more_bundle_of bids i bid e = let at : get_or bids i bid ≡ bid = get_or_from_slice_get bids i bid bid e in
    let list : offers (take (i + 1) bids) ≡ offers (take i bids) ++ atom_of bid ∷ [] =
    ap offers (search (rules, take_more, slice_get_within)) ∙ map_push atom_of (take i bids) bid in
    search (rules, map_push)

pub bundles_before : (bids : List PlainBid) (i : ℕ) (bid : PlainBid) → slice_get bids i ≡ Some bid → IsInOrder (offers bids)
    → All (λ b. bundle_cmp b bid.goods ≡ Less) (map (λ a. a.bundle) (offers (take i bids)))
bundles_before [] i bid e order = absurd (cc)
bundles_before (x ∷ bids) zero bid e order = All-nil (λ b. bundle_cmp b bid.goods ≡ Less)
bundles_before (x ∷ bids) (suc i) bid e order =
    let within = slice_get_within bids i bid e in
    let at : get_or (offers bids) i (atom_of bid) ≡ atom_of bid =
    get_or-map atom_of bids i bid (atom_of bid) within ∙ ap atom_of (get_or_from_slice_get bids i bid bid e) in
    All-cons (λ b. bundle_cmp b bid.goods ≡ Less) x.goods (map (λ a. a.bundle) (offers (take i bids)))
    (ap (λ (a : Atom (List ℕ)). bundle_cmp x.goods a.bundle) (sym at)
    ∙ AllPairs-head IsBefore (atom_of x) (offers bids) order i (atom_of bid) (omega (arith, within, length-map bids atom_of)))
    (bundles_before bids i bid e (AllPairs-tail IsBefore (atom_of x) (offers bids) order))

-- all bids of a bidder
pub one_bid_each : (index : ℕ) (bundle : List ℕ) (atoms : List (Atom (List ℕ))) → IsInOrder atoms
    → once_each index bundle atoms ≡ cond (is_some (price_on atoms bundle)) (index ∷ []) []
one_bid_each index bundle [] order = refl
one_bid_each index bundle (a ∷ rest) order = ⊎_elim
    (λ (t : is_eq (bundle_cmp a.bundle bundle) ≡ true).
    let same : a.bundle ≡ bundle = bundle_cmp_equal a.bundle bundle (equal_from _ t) in
    let none : filter (is_on bundle) rest ≡ [] = none_pass (is_on bundle) rest (All-weaker (IsBefore a) (λ r. is_on bundle r ≡ false)
    (search (rules, false_from_ne_true, bundle_cmp_equal, equal_from, bundle_cmp_refl)) rest (AllPairs-head IsBefore a rest order)) in
    rw t (ap (λ (xs : List (Atom (List ℕ))). map (λ _. index) (a ∷ xs)) none))
    (λ (t : is_eq (bundle_cmp a.bundle bundle) ≡ false). rw t (one_bid_each index bundle rest (AllPairs-tail IsBefore a rest order)))
    (cases_Bool (is_eq (bundle_cmp a.bundle bundle)))

-- one more bidder
pub one_more_bidder : (bidders : List (List (Atom (List ℕ)))) (indices : List ℕ) (k index : ℕ) → k < length indices → get_or indices k 0 ≡ index
    → (atoms : List (Atom (List ℕ))) → atoms ≡ bidder_at bidders index → IsInOrder atoms → (bundle before after : List ℕ)
    → before ≡ bidders_on bidders (take k indices) bundle → after ≡ before ++ once_each index bundle atoms
    → after ≡ bidders_on bidders (take (k + 1) indices) bundle
one_more_bidder bidders indices k index l at atoms is order bundle before after so_far more =
    grind (arith, common_steps, one_bid_each, filter-append, take_more)
