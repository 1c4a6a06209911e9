-- What `cats value` prints: the values of a bundle, with the bids that give them.
use Rattle.std.specs.Prelude.{ℕ, suc, ◌+◌, ◌==◌, ◌&&◌, if◌then◌else◌, Bool, List, [], ◌∷◌, ◌++◌, Option, Some, None}
use Rattle.std.specs.Prelude.{is_none, fold, map, position, slice_index, codes, decimal, Vec, find, nat_le, nat_lt}
use Rattle.std.specs.Global.{Global}
use Rattle.std.specs.List.{flat_map, range_with_len}
use Rattle.goods_set.specs.Bundles.{is_inside, with_good}
use Rattle.bid_file.specs.Files.{PlainBid, PlainFile}
use Rattle.cats_text.specs.Layout.{price_text}
use Rattle.valuation.specs.declared.atom.Atom.{Atom}
use Rattle.valuation.specs.Auctions.{is_dummy, or_atoms_of, xor_atoms_of}
use Rattle.valuation.specs.Values.{xor_value, or_value, chosen_indices}
use Rattle.valuation.specs.Packings.{count_packings}
use Rattle.valuation.specs.SearchLimits.{next_steps}
use Rattle.valuation.specs.ValueLimits.{most_value_steps}
use Rattle.valuation.specs.declared.search.kind.SearchKind.{SearchKind}
use Rattle.valuation.specs.declared.search.kind.SearchKind.TheVariants.{Plain, Bounded}
use Rattle.valuation.specs.declared.search.options.SearchOptions.{SearchOptions}
use Rattle.commands.specs.Outcomes.{Outcome, Prints, LacksGood, ExceedsSteps}

-- the bundle of named goods, some perhaps repeated
abbrev pub bundle_from : List ℕ → List ℕ
bundle_from goods = fold (λ bundle g. with_good g bundle) [] goods

-- the numbers of the bids that pass the test, where the first bid has the number n
abbrev pub numbers_from : (PlainBid → Bool) → ℕ → List PlainBid → List ℕ
numbers_from p n [] = []
numbers_from p n (b ∷ bids) = (if p b then n ∷ [] else []) ++ numbers_from p (suc n) bids

-- of the bids without a dummy good: the bid at a place of the OR bidder's atoms has the number at that place here
abbrev pub or_numbers : List PlainBid → List ℕ
or_numbers bids = numbers_from (λ b. is_none b.dummy) 0 bids

-- of the bids with the dummy good d
abbrev pub xor_numbers : List PlainBid → ℕ → List ℕ
xor_numbers bids d = numbers_from (λ b. is_dummy d b.dummy) 0 bids

-- lists as the code has them
abbrev pub lists_of : List (Vec ℕ Global) → List (List ℕ)
lists_of vecs = map (λ v. v.items) vecs

-- the least place of an atom inside the bundle whose price is the XOR value
abbrev pub best_place : List (Atom (List ℕ)) → List ℕ → Option ℕ
best_place atoms bundle = position (λ a. is_inside a.bundle bundle && (a.price == xor_value atoms bundle)) atoms

-- the numbers at these places, each after a space
abbrev pub numbers_text : List ℕ → List ℕ → List ℕ
numbers_text numbers places = flat_map (λ place. 32 ∷ decimal (slice_index numbers place)) places

abbrev pub option_places : Option ℕ → List ℕ
option_places None = []
option_places (Some place) = place ∷ []

-- the OR value, and the numbers of the bids of one best packing
abbrev pub or_line : List (Atom (List ℕ)) → List ℕ → List ℕ → List ℕ
or_line atoms numbers bundle = codes "or " ++ price_text (or_value atoms bundle) ++ numbers_text numbers
    (chosen_indices atoms bundle) ++ codes "\n"

-- a dummy good, the value of its XOR bidder, and the number of the first bid that gives it
abbrev pub xor_line : ℕ → List (Atom (List ℕ)) → List ℕ → List ℕ → List ℕ
xor_line good atoms numbers bundle = codes "xor" ++ 32 ∷ decimal good ++ codes " "
    ++ price_text (xor_value atoms bundle) ++ numbers_text numbers (option_places (best_place atoms bundle))
    ++ codes "\n"

-- the line of the dummy good d
abbrev pub dummy_line : PlainFile → List ℕ → ℕ → List ℕ
dummy_line file bundle d = xor_line (file.goods + d) (xor_atoms_of file.bids d) (xor_numbers file.bids d) bundle

-- what `cats value` prints of a file and a bundle
abbrev pub value_text : PlainFile → List ℕ → List ℕ
value_text file bundle = or_line (or_atoms_of file.bids) (or_numbers file.bids) bundle
    ++ flat_map (dummy_line file bundle) (range_with_len 0 file.dummy)

-- the first of the goods that a file with so many does not have
abbrev pub missing_good : ℕ → List ℕ → Option ℕ
missing_good count goods = find (λ g. nat_le count g) goods

abbrev pub outcome_unless : Option ℕ → Outcome → Outcome
outcome_unless None outcome = outcome
outcome_unless (Some good) outcome = LacksGood good

-- the values of the bundle, unless it is refused
abbrev pub values_unless : Bool → List ℕ → PlainFile → Outcome
values_unless refused bundle file = if refused then ExceedsSteps bundle else Prints 0 (value_text file bundle)

-- of `cats value` on these goods, if these are the files that are refused
abbrev pub value_outcome_if : (PlainFile → Bool) → List ℕ → PlainFile → Outcome
value_outcome_if refuses goods file =
    outcome_unless (missing_good file.goods goods) (values_unless (refuses file) (bundle_from goods) file)

-- whether a search is refused that met its limit or did not, and that may take more steps: a plain one if it may, a
-- bounded one if it may and did
abbrev pub refuses_by : SearchKind → Bool → Bool → Bool
refuses_by Plain met may = may
refuses_by Bounded met may = met && may

-- whether the search for the value of a bundle is refused, if it met its limit or did not
abbrev pub is_refused : SearchOptions → List (Atom (List ℕ)) → List ℕ → Bool → Bool
is_refused options atoms bundle met =
    refuses_by options.kind met (nat_lt (next_steps options) (most_value_steps options.kind atoms bundle))

-- the outcome of `cats value`, by a search of any kind that met its limit or did not
abbrev pub value_outcome_by : List ℕ → SearchOptions → Bool → PlainFile → Outcome
value_outcome_by goods options met =
    value_outcome_if (λ file. is_refused options (or_atoms_of file.bids) (bundle_from goods) met) goods

-- the bundle has more packings than the limit
abbrev pub exceeds_packings : List ℕ → ℕ → PlainFile → Bool
exceeds_packings bundle limit file = nat_lt limit (count_packings (or_atoms_of file.bids) bundle)

-- as `value_outcome_by`, by plain searches with a step for each packing
abbrev pub value_outcome : List ℕ → ℕ → PlainFile → Outcome
value_outcome goods limit = value_outcome_if (exceeds_packings (bundle_from goods) limit) goods
