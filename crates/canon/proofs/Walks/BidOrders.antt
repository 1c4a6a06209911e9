-- Bidders whose bids are compared one by one, and bids that are named one by one: each step takes the bids at one index, by which the
-- order of what is behind it is known.
use Rattle.canon.proofs.Common.{◌≡◌, ℕ, ◌+◌, List, [], ◌∷◌, ◌++◌, length, take, drop, Some, sym, ap, ap₂, ◌∙◌, Global, Vec, slice_get, ordering_then, drop-map}
use Rattle.canon.proofs.Common.{take_more, length-map, map_push, get_or_from_slice_get, slice_get_within, PlainBid, Atom, atom_of, atom_cmp, bidder_cmp, offers}
use Rattle.canon.proofs.Common.{printed_atoms, rules}
use Rattle.canon.proofs.Walks.BidRuns.{drop_at}

pub length-offers : (bids : List PlainBid) → length (offers bids) ≡ length bids
length-offers bids = length-map bids atom_of

-- what the bid at an index offers, and those behind it
offers-drop : (bids : List PlainBid) (i : ℕ) (b : PlainBid) → slice_get bids i ≡ Some b → drop i (offers bids) ≡ atom_of b ∷ drop (i + 1) (offers bids)
offers-drop bids i b e = search (rules, drop-map, drop_at)

-- what the bids from an index on answer, by the two at it
pub bidder_cmp-drop : (one other : List PlainBid) (i : ℕ) (x y : PlainBid) → slice_get one i ≡ Some x → slice_get other i ≡ Some y
    → bidder_cmp (drop i (offers one)) (drop i (offers other)) ≡ ordering_then (atom_cmp (atom_of x) (atom_of y))
    (bidder_cmp (drop (i + 1) (offers one)) (drop (i + 1) (offers other)))
bidder_cmp-drop one other i x y e f = ap₂ bidder_cmp (offers-drop one i x e) (offers-drop other i y f)

-- one more bid is named
pub one_more_named : (bids : List PlainBid) (named new : List (Vec ℕ Global × ℕ)) (i : ℕ) (b : PlainBid) (goods : Vec ℕ Global)
    → slice_get bids i ≡ Some b → new ≡ named ++ (goods, b.price) ∷ [] → goods.items ≡ b.goods
    → printed_atoms named ≡ offers (take i bids) → printed_atoms new ≡ offers (take (i + 1) bids)
one_more_named bids named new i b goods e more same h =
    let name : Vec ℕ Global × ℕ → Atom (List ℕ) = λ x. record { bundle = x.0.items; price = x.1 } in
    ap printed_atoms more ∙ map_push name named (goods, b.price)
    ∙ ap₂ (λ (zs : List (Atom (List ℕ))) (gs : List ℕ). zs ++ record { bundle = gs; price = b.price } ∷ []) h same
    ∙ sym (ap offers (take_more bids i b (slice_get_within bids i b e)
    ∙ ap (λ (x : PlainBid). take i bids ++ x ∷ []) (get_or_from_slice_get bids i b b e)) ∙ map_push atom_of (take i bids) b)
