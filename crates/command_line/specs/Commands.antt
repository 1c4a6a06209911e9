-- What a command takes, by its row of `TASKS`, and what was given to it. An option more is a row more.
use Rattle.std.specs.Prelude.{◌&&◌, ◌||◌, ◌++◌, ℕ, Bool, true, false, not, List, [], ◌∷◌, map, fold}
use Rattle.std.specs.Prelude.{Option, Some, None, codes, if◌then◌else◌, is_some, option_and_then, unwrap_or}
use Rattle.std.specs.List.{list_any}
use Rattle.std.specs.Option.{option_map_or, option_or}
use Rattle.std.specs.Str.{bytes_eq}
use Rattle.clap.specs.Lexer.{usize_max}
use Rattle.clap.specs.Simple.{App, Shape, new_rule, new_shape}
use Rattle.clap.specs.Walk.{Row, Rule, all_of, first_of}
use Rattle.clap.specs.declared.builder.action.ArgAction.TheVariants.{SetTrue}
use Rattle.clap.specs.declared.builder.value_parser.ValueParser.TheVariants.{Unsigned}
use Rattle.command_line.specs.NumberLists.{numbers_of_words}
use Rattle.command_line.specs.Numbers.{begins_with_sign, limit_of, tens_of}
use Rattle.requests.specs.Tasks.{is_many, name_of}
use Rattle.requests.specs.declared.task.Files.{Files}
use Rattle.requests.specs.declared.task.Files.TheVariants.{Two}
use Rattle.requests.specs.declared.task.TaskRow.{TaskRow}
use Rattle.requests.specs.declared.task.TheConstants.{TASKS}
use Rattle.rounding.specs.Replacements.{price_rule}
use Rattle.rounding.specs.declared.replacement.FinePrices.{FinePrices}
use Rattle.rounding.specs.declared.replacement.FinePrices.TheVariants.{Refuse, Round}
use Rattle.rounding.specs.declared.replacement.PriceRule.{PriceRule}
use Rattle.valuation.specs.SearchLimits.{bounded_options, plain_options}
use Rattle.valuation.specs.declared.search.options.SearchOptions.{SearchOptions}

-- ---- words

abbrev pub folder : Rule
folder = record (new_rule (codes "DIR")) { required = true }

abbrev pub file : Rule
file = record (new_rule (codes "FILE")) { required = true }

abbrev pub second_file : Rule
second_file = record (new_rule (codes "SECOND_FILE")) { required = true; value_names = 1 }

-- so many words, or more
abbrev pub words_from : ℕ → List ℕ → Rule
words_from least name = record (new_rule name) {
  range = Some (record { start_inclusive = least; end_inclusive = usize_max });
}

-- ---- options and flags

-- an option with one value
abbrev pub option : List ℕ → Rule
option name = record (new_rule name) { long = Some name; value_names = 1 }

-- the limit of one search is from 1 to 1,000,000,000, and is 1,000,000 if it is not given
abbrev pub steps : Rule
steps = record (option (codes "steps")) { defaults = codes "1000000" ∷ []; parser = Some (Unsigned 1 1000000000) }

-- the limit of all searches together is from 1 to 1,000,000,000,000; there is none if it is not given
abbrev pub total_steps : Rule
total_steps = record (option (codes "total-steps")) { parser = Some (Unsigned 1 1000000000000) }

-- the same of a command that always uses the bounded search: it is 50,000,000 if it is not given
abbrev pub usual_total_steps : Rule
usual_total_steps = record total_steps { defaults = codes "50000000" ∷ [] }

-- all prices are multiplied by a number from 1 to 1,000,000,000,000
abbrev pub times : Rule
times = record (option (codes "times")) { parser = Some (Unsigned 1 1000000000000) }

abbrev pub flag : List ℕ → Rule
flag name = record (new_rule name) { long = Some name; action = Some SetTrue }

-- the flag `--bound` of a command that always uses the bounded search: it changes nothing
abbrev pub always_bound : Rule
always_bound = record (flag (codes "always-bound")) { long = Some (codes "bound") }

-- `-0` or `--null`
abbrev pub null : Rule
null = record (flag (codes "null")) { short = Some 48 }

-- ---- what a command takes

abbrev pub is_two : Files → Bool
is_two Two = true
is_two files = false

-- whether a command has limits, and no flag that chooses the search
abbrev pub is_always_bounded : TaskRow → Bool
is_always_bounded row = row.limits && not row.bound

-- files end the line
abbrev pub has_no_other_words : TaskRow → Bool
has_no_other_words row = not (is_many row.files || (row.goods || row.bids))

-- Each argument, and whether the command has it, in the order of the help. A line with more files than the command
-- reads requests nothing.
abbrev pub arguments_of : TaskRow → List (Rule × Bool)
arguments_of row =
    (flag (codes "round"), row.rounding)
    ∷ (flag (codes "round-exact"), row.rounding)
    ∷ (flag (codes "exact"), row.exact)
    ∷ (times, row.times)
    ∷ (flag (codes "bound"), row.bound)
    ∷ (always_bound, is_always_bounded row)
    ∷ (steps, row.limits)
    ∷ (total_steps, row.bound)
    ∷ (usual_total_steps, is_always_bounded row)
    ∷ (flag (codes "progress"), is_many row.files)
    ∷ (null, row.null)
    ∷ (flag (codes "all"), row.all)
    ∷ (flag (codes "table"), row.table)
    ∷ (option (codes "files0-from"), is_many row.files)
    ∷ (option (codes "bids"), row.bids)
    ∷ (folder, row.folder)
    ∷ (words_from 1 (codes "FILE"), is_many row.files)
    ∷ (file, not (is_many row.files))
    ∷ (second_file, is_two row.files)
    ∷ (words_from 0 (codes "GOOD"), row.goods)
    ∷ (words_from 0 (codes "BID"), row.bids)
    ∷ (words_from 0 (codes "MORE_FILES"), has_no_other_words row)
    ∷ []

-- the rules with that of an argument, if the command has it
abbrev pub with_argument : List Rule → Rule × Bool → List Rule
with_argument rules argument = rules ++ (if argument.1 then argument.0 ∷ [] else [])

abbrev pub shape_of : TaskRow → Shape
shape_of row = record (new_shape (name_of row.task)) { rules = fold with_argument [] (arguments_of row) }

-- the program's command line, as `clap` has it
abbrev pub cats : App
cats = record {
  top = record (new_shape (codes "cats")) { is_leaf = false; has_version = true; subcommand_required = true };
  subs = map shape_of TASKS;
}

-- ---- what was given, by the rows of the arguments

abbrev pub texts_in : List ℕ → List Row → List (List ℕ)
texts_in name rows = unwrap_or (all_of name rows) []

abbrev pub is_given : List ℕ → List Row → Bool
is_given name rows = is_some (first_of name rows)

-- the files of a command on one or on many, and then the second file of a command on two
abbrev pub files_in : List Row → List (List ℕ)
files_in rows = texts_in (codes "FILE") rows ++ texts_in (codes "SECOND_FILE") rows

-- a list of files, or of bids
abbrev pub list_in : List Row → Option (List ℕ)
list_in rows = option_or (first_of (codes "files0-from") rows) (first_of (codes "bids") rows)

-- a file has 4,096 goods and 65,536 bids at most, which are counted from 0
abbrev pub goods_in : List Row → Option (List ℕ)
goods_in rows = numbers_of_words 4095 (texts_in (codes "GOOD") rows)

abbrev pub bids_in : List Row → Option (List ℕ)
bids_in rows = numbers_of_words 65535 (texts_in (codes "BID") rows)

-- the number that an option has
abbrev pub number_in : List ℕ → List Row → Option ℕ
number_in name rows = option_and_then limit_of (first_of name rows)

abbrev pub is_true : List ℕ → Bool
is_true text = bytes_eq text (codes "true")

abbrev pub is_set : List ℕ → List Row → Bool
is_set name rows = option_map_or is_true (first_of name rows) false

-- by which power of ten prices are multiplied, if the number is one; by 1 if there is none
abbrev pub tens_in : List Row → Option ℕ
tens_in rows = tens_of (unwrap_or (number_in (codes "times") rows) 1)

-- what becomes of fine prices: `--round-exact`, and `--exact` of `round`, are stricter than `--round`
abbrev pub fine_in : List Row → FinePrices
fine_in rows = if is_set (codes "round-exact") rows || is_set (codes "exact") rows then Refuse else Round

-- whether something is said of prices
abbrev pub names_prices : List Row → Bool
names_prices rows = is_set (codes "round-exact") rows || (is_set (codes "exact") rows
    || (is_set (codes "round") rows || is_given (codes "times") rows))

-- what becomes of each price
abbrev pub prices_in : List Row → Option PriceRule
prices_in rows = if names_prices rows then Some (price_rule (fine_in rows) (unwrap_or (tens_in rows) 0)) else None

-- The search is the bounded one if the flag that chooses it is given. A command without it always uses that search.
abbrev pub is_bounded : List Row → Bool
is_bounded rows = option_map_or is_true (first_of (codes "bound") rows) true

abbrev pub steps_in : List Row → ℕ
steps_in rows = unwrap_or (number_in (codes "steps") rows) 0

abbrev pub options_in : List Row → SearchOptions
options_in rows = if is_bounded rows then bounded_options (steps_in rows) (number_in (codes "total-steps") rows)
    else plain_options (steps_in rows)

-- numbers have no sign
abbrev pub is_signed : List ℕ → List Row → Bool
is_signed name rows = list_any begins_with_sign (texts_in name rows)

abbrev pub has_signed_number : List Row → Bool
has_signed_number rows = is_signed (codes "steps") rows || (is_signed (codes "total-steps") rows
    || (is_signed (codes "times") rows || (is_signed (codes "GOOD") rows || is_signed (codes "BID") rows)))
