-- The bid that is named for a refused bundle. A bundle is searched only if an OR bid is on it, so the first such bid is found.
use Rattle.commands.proofs.Common.{arith, ◌≡◌, ℕ, ◌<◌, true, ltb, List, [], ◌∷◌, length, get_or, sym, ap, ◌∙◌, Some, Contains, is_none, nat_eq, and_from}
use Rattle.commands.proofs.Common.{ltb-true, nat_list_eq_equiv, passes_at_first, pointwise, PlainBid, PlainFile, Atom, SearchOptions, atom_of, or_atoms_of}
use Rattle.commands.proofs.Common.{Contains-unmap, options_after, Contains-head, Contains-tail, Contains-filter_parts, greatest_price-reached, greatest_price}
use Rattle.commands.proofs.Common.{search_steps_by, searched_bundles, first_bid_on, is_on, filter}
use Rattle.prune.specs.SearchSteps.{first_over, first_refused}
use Rattle.commands.proofs.BidNumbers.{first_within}

pub over_is_searched : (steps : List ℕ → ℕ) (options : SearchOptions) (bundles : List (List ℕ)) (bundle : List ℕ)
    → first_over steps options bundles ≡ Some bundle → Contains bundles bundle
unfolding first_over
over_is_searched steps options [] bundle e = absurd cc
over_is_searched steps options (x ∷ rest) bundle e =
    grind (arith, Contains-head x rest, Contains-tail x rest bundle, over_is_searched steps (options_after options (steps x)) rest bundle)

-- an OR bid is on the bundle
refused_is_on : (options : SearchOptions) (goods : ℕ) (atoms : List (Atom (List ℕ))) (bundle : List ℕ)
    → first_refused options goods atoms ≡ Some bundle → (a : Atom (List ℕ)) × Contains atoms a × (a.bundle ≡ bundle)
unfolding first_refused
refused_is_on options goods atoms bundle e =
    let searched = over_is_searched (search_steps_by options.kind goods atoms) options (searched_bundles goods atoms) bundle e in
    let priced = (Contains-filter_parts (λ bundle. ltb 0 (greatest_price atoms bundle)) _ bundle searched).1 in
    let reached = greatest_price-reached atoms bundle (ltb-true 0 (greatest_price atoms bundle) priced) in
    (reached.0, reached.1, reached.2)

-- a bid is on the bundle, so the first such bid is there
pub named_is_on : (options : SearchOptions) (f : PlainFile) (bundle : List ℕ) → first_refused options f.goods (or_atoms_of f.bids) ≡ Some bundle
    → (first_bid_on f bundle < length f.bids) × ((d : PlainBid) → is_on bundle (get_or f.bids (first_bid_on f bundle) d) ≡ true)
named_is_on options f bundle e =
    let a = refused_is_on options f.goods (or_atoms_of f.bids) bundle e in
    let r = Contains-unmap atom_of (filter (λ b. is_none b.dummy) f.bids) a.0 a.1 in
    let s = Contains-filter_parts (λ b. is_none b.dummy) f.bids r.0 r.1 in
    let goods : r.0.goods ≡ bundle = ap (λ (x : Atom (List ℕ)). x.bundle) (sym r.2) ∙ a.2 in
    let on : is_on bundle r.0 ≡ true =
    and_from _ _ s.1 (ap (λ (xs : List ℕ). pointwise nat_eq xs bundle) goods ∙ nat_list_eq_equiv.refl bundle) in
    let within = first_within (is_on bundle) f.bids r.0 s.0 on in
    (within, λ d. passes_at_first (is_on bundle) f.bids d within)
