-- What `cats normalise` prints: the canonical text. A bundle of the OR bidder may be refused, and then the bid may be
-- named, with the limit that is met.
use Rattle.std.specs.Prelude.{ℕ, Bool, ◌&&◌, List, Option, Some, None, is_none, nat_eq, nat_lt, not}
use Rattle.std.specs.Prelude.{if◌then◌else◌}
use Rattle.std.specs.Cmp.Lexicographic.{pointwise}
use Rattle.std.specs.List.{position_or_len}
use Rattle.bid_file.specs.Files.{PlainBid, PlainFile}
use Rattle.valuation.specs.Auctions.{or_atoms_of}
use Rattle.valuation.specs.declared.search.options.SearchOptions.{SearchOptions}
use Rattle.prune.specs.SearchSteps.{first_refused, search_steps_by}
use Rattle.canon.specs.Canonical.{canonical_text}
use Rattle.canon.specs.declared.canon_fault.CanonFault.{CanonFault}
use Rattle.canon.specs.declared.canon_fault.CanonFault.TheVariants.{StepLimit}
use Rattle.canon.specs.declared.which.Which.{Which}
use Rattle.commands.specs.declared.faults.Limit.{Limit}
use Rattle.commands.specs.declared.faults.Limit.TheVariants.{OfEach, OfAll}
use Rattle.commands.specs.declared.faults.RunFault.{RunFault}
use Rattle.commands.specs.declared.faults.RunFault.TheVariants.{Refused, TooHeavy}
use Rattle.commands.specs.Outcomes.{Outcome, Prints, ExceedsSteps, ExceedsAtBid}

-- a text, unless this bundle of the OR bidder is refused, of which `refusal` is made
abbrev pub text_unless_refused : (List ℕ → Outcome) → List ℕ → Option (List ℕ) → Outcome
text_unless_refused refusal text None = Prints 0 text
text_unless_refused refusal text (Some goods) = refusal goods

-- of a command that searches the bundles of the OR bidder within limits, as one on the canonical file does
abbrev pub outcome_within : SearchOptions → (List ℕ → Outcome) → List ℕ → PlainFile → Outcome
outcome_within options refusal text file =
    text_unless_refused refusal text (first_refused options file.goods (or_atoms_of file.bids))

-- the outcome of `cats normalise`: the canonical text, unless the limits refuse an OR bundle
abbrev pub normalise_outcome : SearchOptions → PlainFile → Outcome
normalise_outcome options file = outcome_within options ExceedsSteps (canonical_text file) file

-- a bid of the OR bidder on this bundle
abbrev pub is_on : List ℕ → PlainBid → Bool
is_on goods b = is_none b.dummy && pointwise nat_eq b.goods goods

-- the number of the OR bidder's first bid on this bundle
abbrev pub first_bid_on : PlainFile → List ℕ → ℕ
first_bid_on file goods = position_or_len (is_on goods) file.bids

-- which limit is met by a search that takes so many steps, where limits refuse it: that of each search, if it takes
-- more than one may, and else that of all together
--
-- A limit of each that is above that of all is never met.
abbrev pub met_by : ℕ → Option ℕ → ℕ → Limit
met_by each None steps = OfEach each
met_by each (Some total) steps = if not (nat_lt total each) && nat_lt each steps then OfEach each else OfAll total

-- the limit that is met by the search on this bundle
abbrev pub limit_met : SearchOptions → PlainFile → List ℕ → Limit
limit_met options file goods =
    met_by options.each options.total (search_steps_by options.kind file.goods (or_atoms_of file.bids) goods)

-- the outcome that names the first bid on a refused bundle, and the limit that is met
abbrev pub exceeds_at : SearchOptions → PlainFile → List ℕ → Outcome
exceeds_at options file goods = ExceedsAtBid (limit_met options file goods) (first_bid_on file goods) goods

-- as `normalise_outcome`, but the bid on a refused bundle is named
abbrev pub naming_outcome : SearchOptions → PlainFile → Outcome
naming_outcome options file = outcome_within options (exceeds_at options file) (canonical_text file) file

-- a fault that names the first bid on a refused bundle, and the limit that is met
abbrev pub with_bid : Which → PlainFile → SearchOptions → CanonFault → RunFault
with_bid which file options (StepLimit goods) = TooHeavy which (record {
  number = first_bid_on file goods.items;
  goods = goods;
  limit = limit_met options file goods.items;
})
with_bid which file options fault = Refused which fault
