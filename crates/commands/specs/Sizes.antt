-- The numbers of a file in the table of `cats sizes`, and of its canonical file, and why they are not known.
use Rattle.std.specs.Prelude.{◌≡◌, ℕ, Bool, List, [], ◌∷◌, ◌++◌, length, map, filter, is_none, codes, decimal, Option}
use Rattle.std.specs.List.{flat_map, list_any, range_with_len}
use Rattle.std.specs.Option.{option_map}
use Rattle.bid_file.specs.Files.{PlainBid, PlainFile}
use Rattle.cats_text.specs.declared.read_fault.ReadFault.{ReadFault}
use Rattle.valuation.specs.Auctions.{is_dummy}
use Rattle.valuation.specs.declared.search.options.SearchOptions.{SearchOptions}
use Rattle.commands.specs.Judgements.{Judgement, JudgesInput, canonical_known, fault_judged, file_read}
use Rattle.commands.specs.Outputs.{number_cell}
use Rattle.commands.specs.declared.faults.RunFault.{RunFault}

-- whether some bid has the dummy good d
abbrev pub has_dummy : List PlainBid → ℕ → Bool
has_dummy bids d = list_any (λ b. is_dummy d b.dummy) bids

-- how many bids have no dummy good
abbrev pub count_or : List PlainBid → ℕ
count_or bids = length (filter (λ b. is_none b.dummy) bids)

-- how many of so many dummy goods some bid has
abbrev pub count_xor : ℕ → List PlainBid → ℕ
count_xor dummy bids = length (filter (has_dummy bids) (range_with_len 0 dummy))

-- a number of a file, with its title
abbrev pub Number : Type 0
Number = List ℕ × (PlainFile → ℕ)

-- of a bid file
abbrev pub file_numbers : List Number
file_numbers = (codes "goods", λ f. f.goods) ∷ (codes "bids", λ f. length f.bids) ∷ (codes "or_bids", λ f. count_or f.bids)
    ∷ (codes "xor_bidders", λ f. count_xor f.dummy f.bids) ∷ (codes "dummies", λ f. f.dummy) ∷ []

-- of its canonical file
abbrev pub canonical_numbers : List Number
canonical_numbers = (codes "kept", λ f. length f.bids) ∷ (codes "kept_or", λ f. count_or f.bids)
    ∷ (codes "kept_xor", λ f. count_xor f.dummy f.bids) ∷ []

-- the numbers of a file in the table of `cats sizes`
abbrev pub sizes_of : PlainFile → List ℕ
sizes_of f = map (λ n. n.1 f) file_numbers

-- as `sizes_of`, of a canonical file
abbrev pub counts_of : PlainFile → List ℕ
counts_of f = map (λ n. n.1 f) canonical_numbers

-- each word, and a tab after it
abbrev pub cells : List (List ℕ) → List ℕ
cells words = flat_map (λ word. word ++ codes "\t") words

-- each number, and a tab after it
abbrev pub with_tabs : List ℕ → List ℕ
with_tabs numbers = flat_map (λ n. decimal n ++ codes "\t") numbers

-- the cell is empty where there is no number
abbrev pub number_in : Option PlainFile → Number → List ℕ
number_in file n = number_cell (option_map n.1 file)

-- columns, each with its title and its cell in the row of a file
abbrev pub Column : Type 0
Column = List ℕ × (Judgement → List ℕ)

abbrev pub number_columns : List Column
number_columns = map (λ n. (n.0, λ j. number_in (file_read j) n)) file_numbers
    ++ map (λ n. (n.0, λ j. number_in (canonical_known j) n)) canonical_numbers

-- the cells of a file's numbers in the table of `cats sizes`
abbrev pub numbers_judged : Judgement → List ℕ
numbers_judged judgement = cells (map (λ c. c.1 judgement) number_columns)

-- the cells of `numbers_judged` were put behind a text
--
-- The fault says why some are empty.
pub record PutsNumbers {I : Type 0} (gives : I → I → PlainFile → Type 0) (refuses : I → I → ReadFault → Type 0)
    (options : SearchOptions) (before after : I) (old new : List ℕ) (fault : Option RunFault) : Type 0 where
  pub judgement : Judgement
  pub judges : JudgesInput gives refuses options before after judgement
  pub puts : new ≡ old ++ numbers_judged judgement
  pub is_fault : fault ≡ fault_judged judgement
