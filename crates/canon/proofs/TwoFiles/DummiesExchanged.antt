-- A file with its dummy goods exchanged. Its bidders are those of the file in another order, so as many of them have each table of values.
use Rattle.canon.proofs.Common.{◌≡◌, ◌≢◌, ℕ, ◌<◌, Bool, cond, is_none, List, length, get_or, map, Option, Some, None, refl, sym, ap, ◌∙◌, subst, arith, rules}
use Rattle.canon.proofs.Common.{All, AllPairs, IsPermutation, filter, range_with_len, eq-eqb, eqb-true, Decides-eqb, ext_get_or, get_or-map, length-map}
use Rattle.canon.proofs.Common.{All-from_recursion, length-range_with_len, get_or-range_with_len, All-permutation, IsPermutation-map, IsPermutation-sym}
use Rattle.canon.proofs.Common.{length_permutation, sum_by-IsPermutation, IsDistinct-IsPermutation, AllPairs-from_IsDistinct, IsDistinct-from_AllPairs}
use Rattle.canon.proofs.Common.{map-map, IsDummyBelow, IsPlainFile, PlainBid, PlainFile, Atom, IsAtom, atom_of, auction_from, is_dummy, or_atoms_of}
use Rattle.canon.proofs.Common.{xor_atoms_of, All-from_Contains, filter_same_on, map-filter, map_same_on, in_range, xor_points, range_differs, named_bid}
use Rattle.canon.proofs.Common.{named_dummy, with_dummies, has_table, AreAlike, eqb_swap}
use Rattle.canon.proofs.CanonicalAuctions.Sames.{same_bidders}
use Rattle.canon.proofs.CanonicalFiles.Texts.{HasAtoms-file}

-- the bids that pass a test after the exchange offer what those offer that pass another one before it
offers_named : (dummies : List ℕ) (p q : PlainBid → Bool) (bids : List PlainBid) → All (λ b. p (named_bid dummies b) ≡ q b) bids
    → map atom_of (filter p (map (named_bid dummies) bids)) ≡ map atom_of (filter q bids)
offers_named dummies p q bids h =
    ap (map atom_of) (sym (map-filter (named_bid dummies) p bids)) ∙ map-map atom_of (named_bid dummies) (filter (λ b. p (named_bid dummies b)) bids)
    ∙ ap (map atom_of) (filter_same_on (λ b. p (named_bid dummies b)) q bids h)

still_none : (dummies : List ℕ) (o : Option ℕ) → is_none (named_dummy dummies o) ≡ is_none o
still_none dummies None = refl
still_none dummies (Some d) = refl

module _ (f : PlainFile) (dummies : List ℕ) (facts : IsPlainFile f) (moved : IsPermutation (range_with_len 0 f.dummy) dummies) where
  abbrev named : ℕ → ℕ
  named d = get_or dummies d 0

  abbrev new : List PlainBid
  new = map (named_bid dummies) f.bids

  long : length dummies ≡ f.dummy
  long = let same = length_permutation (range_with_len 0 f.dummy) dummies moved in let count = length-range_with_len 0 f.dummy in omega arith

  -- no dummy good is there twice
  differ : AllPairs (λ d e. d ≢ e) dummies
  differ = AllPairs-from_IsDistinct Decides-eqb dummies
      (search (rules, IsDistinct-IsPermutation, eqb_swap, IsDistinct-from_AllPairs, Decides-eqb, range_differs))

  one_number : (d e : ℕ) → d < f.dummy → e < f.dummy → named d ≡ named e → d ≡ e
  one_number d e l m same = search (rules, long, differ)

  -- a bid has a dummy good after the exchange exactly where it had the one before
  still_dummy : (d : ℕ) → d < f.dummy → (o : Option ℕ) → IsDummyBelow f.dummy o → is_dummy (named d) (named_dummy dummies o) ≡ is_dummy d o
  still_dummy d l None h = refl
  still_dummy d l (Some e) h = search (rules, eq-eqb, one_number, eqb-true)

  dummies_below : All (λ b. IsDummyBelow f.dummy b.dummy) f.bids
  dummies_below = search (rules, All-from_recursion)

  bidder_named : (d : ℕ) → d < f.dummy → xor_atoms_of new (named d) ≡ xor_atoms_of f.bids d
  bidder_named d l = search (rules, offers_named, still_dummy, dummies_below)

  or_atoms_named : or_atoms_of new ≡ or_atoms_of f.bids
  or_atoms_named = offers_named dummies (λ b. is_none b.dummy) (λ b. is_none b.dummy) f.bids (λ k b m. still_none dummies _)

  -- all dummy goods by their numbers
  all_named : dummies ≡ map named (range_with_len 0 f.dummy)
  all_named =
      let count = length-range_with_len 0 f.dummy in
      let mapped = length-map (range_with_len 0 f.dummy) named in
      ext_get_or 0 dummies (map named (range_with_len 0 f.dummy)) (omega (arith, long)) (λ i l.
      let within : i < f.dummy = omega (arith, long) in
      let here : i < length (range_with_len 0 f.dummy) = omega arith in
      let number : get_or (range_with_len 0 f.dummy) i 0 ≡ i = let e = get_or-range_with_len 0 f.dummy i 0 within in omega arith in
      sym (get_or-map named (range_with_len 0 f.dummy) i 0 0 here ∙ ap named number))

  abbrev olds : List (List (Atom (List ℕ)))
  olds = (auction_from f).xor_bidders

  abbrev news : List (List (Atom (List ℕ)))
  news = (auction_from (with_dummies dummies f)).xor_bidders

  bidders_moved : IsPermutation news olds
  bidders_moved = subst (λ (bidders : List (List (Atom (List ℕ)))). IsPermutation news bidders)
      (ap (map (xor_atoms_of new)) all_named ∙ map-map (xor_atoms_of new) named (range_with_len 0 f.dummy)
      ∙ map_same_on (λ d. xor_atoms_of new (named d)) (xor_atoms_of f.bids) (range_with_len 0 f.dummy)
      (All-from_Contains (λ d. xor_atoms_of new (named d) ≡ xor_atoms_of f.bids d) (range_with_len 0 f.dummy) (λ d c. bidder_named d (in_range f.dummy d c))))
      (search (rules, IsPermutation-map))

  pub alike_exchanged : AreAlike f (with_dummies dummies f)
  alike_exchanged =
      let atoms = (HasAtoms-file f facts).xor_atoms in
      record {
        goods = refl;
        or_bids = ap (xor_points f.goods) (sym or_atoms_named);
        xor_bidders =
            same_bidders f.goods olds news atoms (All-permutation (All (IsAtom f.goods)) olds news (IsPermutation-sym news olds bidders_moved) atoms)
            (λ table n. sum_by-IsPermutation (λ b. cond {A = ℕ} (has_table f.goods table b) 1 0) news olds bidders_moved);
      }
