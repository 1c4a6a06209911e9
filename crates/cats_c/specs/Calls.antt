-- The one call for all commands. It does what the program does with a request on texts in memory.
use Rattle.std.specs.Prelude.{◌≡◌, ◌⊎◌, ◌++◌, ◌+◌, ◌==◌, ◌||◌, ℕ, suc, Bool, false, not, List, [], ◌∷◌, drop, length}
use Rattle.std.specs.Prelude.{map}
use Rattle.std.specs.Prelude.{take, Option, Some, None, Vec, String, decimal, if◌then◌else◌, option_and_then}
use Rattle.std.specs.Prelude.{option_map, slice_get, string_bytes}
use Rattle.std.specs.Borrow.{Bor}
use Rattle.std.specs.Global.{Global}
use Rattle.std.specs.Str.{IsUtf8}
use Rattle.cats_text.specs.Streams.{has_failed, inner_of}
use Rattle.cats_text.specs.declared.stream.Watched.{Watched}
use Rattle.command_line.specs.declared.request.NoRequest.TheVariants.{NoMemory}
use Rattle.requests.specs.Requests.{PlainRequest}
use Rattle.requests.specs.declared.task.TaskRow.{TaskRow}
use Rattle.requests.specs.declared.task.TheConstants.{TASKS}
use Rattle.rounding.specs.Replacements.{price_rule}
use Rattle.rounding.specs.declared.replacement.FinePrices.TheVariants.{Round, Refuse}
use Rattle.rounding.specs.declared.replacement.PriceRule.{PriceRule}
use Rattle.valuation.specs.SearchLimits.{bounded_options, plain_options}
use Rattle.valuation.specs.declared.search.options.SearchOptions.{SearchOptions}
use Rattle.cats_cmd.specs.Requests.{AnswersNoRequest, AnswersRequest}
use Rattle.commands.specs.declared.faults.Unopened.TheVariants.{NoSuchFile}
use Rattle.cats_c.specs.declared.call.CallRequest.{CallRequest}
use Rattle.cats_c.specs.declared.call.CallText.{CallText}

-- ---- the names of texts

-- a name, or else the number
abbrev pub name_or : List ℕ → ℕ → List ℕ
name_or name number = if length name == 0 then decimal number else name

-- of texts of which the first has this number
abbrev pub names_from : ℕ → List CallText → List (List ℕ)
names_from number [] = []
names_from number (text ∷ texts) = name_or text.name.now number ∷ names_from (suc number) texts

-- the name of each text, or its number from 1
abbrev pub names_of : List CallText → List (List ℕ)
names_of texts = names_from 1 texts

-- the name of a text is not UTF-8
pub record HasBrokenName (texts : List CallText) : Type 0 where
  pub number : ℕ
  pub text : CallText
  pub there : slice_get texts number ≡ Some text
  pub broken : IsUtf8 text.name.now → ⊥

-- there is a text of this number and name
pub record IsNumberOf (texts : List CallText) (name : List ℕ) (number : ℕ) : Type 0 where
  pub text : CallText
  pub there : slice_get texts number ≡ Some text
  pub named : name ≡ name_or text.name.now (number + 1)

-- the text is one of this name
pub record IsTextAt (texts : List CallText) (name : List ℕ) (bytes : Bor (List ℕ)) : Type 0 where
  pub number : ℕ
  pub named : IsNumberOf texts name number
  pub is : bytes ≡ named.text.bytes

-- ---- what is requested

-- the limit on all steps together, as a caller writes it: 0 is none
abbrev pub total_of : ℕ → Option ℕ
total_of total = if total == 0 then None else Some total

-- what becomes of each price, if prices are rounded
abbrev pub prices_of : ℕ → Option PriceRule
prices_of prices = if prices == 0 then None
    else if prices == 1 then Some (price_rule Round 0) else Some (price_rule Refuse 0)

-- plain searches have no limit of all together
abbrev pub plain_unless : Option ℕ → ℕ → Option SearchOptions
plain_unless None steps = Some (plain_options steps)
plain_unless (Some total) steps = None

-- how the files are searched, by a command that lets the caller choose the searches or not
abbrev pub options_of : CallRequest → Bool → Option SearchOptions
options_of request may_choose = if request.bound || not may_choose
    then Some (bounded_options request.steps (total_of request.total))
    else plain_unless (total_of request.total) request.steps

-- the request of the command of a row on texts of these names, with searches that go so
abbrev pub request_with : TaskRow → CallRequest → List (List ℕ) → SearchOptions → PlainRequest
request_with row request names options = record {
  task = row.task;
  files = names;
  list = None;
  goods = request.goods.now;
  bids = request.bids.now;
  prices = prices_of request.prices;
  options = options;
  progress = false;
  null = request.null;
  all = request.all;
  table = request.table;
  folder = None;
}

abbrev pub request_by : TaskRow → CallRequest → List (List ℕ) → Option PlainRequest
request_by row request names = option_map (request_with row request names) (options_of request row.bound)

-- the program's request that a caller makes, on files of these names
--
-- There is none if no command has this number, or if searches that are not bounded are limited together.
abbrev pub request_of : CallRequest → List (List ℕ) → Option PlainRequest
request_of request names = option_and_then (λ row. request_by row request names) (slice_get TASKS request.task)

-- ---- what is answered

-- a name that is UTF-8, or else the number
abbrev pub IsNameOr : List ℕ → ℕ → Option (String Global) → Type 0
IsNameOr name number None = IsUtf8 name → ⊥
IsNameOr name number (Some text) = string_bytes text ≡ name_or name number

-- the names of the texts, if all are UTF-8
abbrev pub AreNames : List CallText → Option (Vec (String Global) Global) → Type 0
AreNames texts None = HasBrokenName texts
AreNames texts (Some names) = map string_bytes names.items ≡ names_of texts

-- an output of the program
abbrev pub Output : Type 0
Output = Watched (Vec ℕ Global)

-- the request is answered as the program answers it on files at the names of the texts
pub record AnswersCall (request : CallRequest) (texts : List CallText) (out out_after err err_after : Output)
    (status : ℕ) : Type 0 where
  pub asked : PlainRequest
  pub is_request : request_of request (names_of texts) ≡ Some asked
  pub answers : AnswersRequest (IsTextAt texts) (λ name why. why ≡ NoSuchFile) (λ stream. Some stream.now)
      (λ printed. Some printed.items) (λ printed. Some printed.items) false (λ name found. found ≡ None)
      (λ path why. Unit {0}) None None asked out out_after err err_after status

-- it is no request of the program, or a name is not UTF-8
pub record IsWrongCall (request : CallRequest) (texts : List CallText) (out out_after err err_after : Output)
    (status : ℕ) : Type 0 where
  pub wrong : HasBrokenName texts ⊎ (request_of request (names_of texts) ≡ None)
  pub is_status : status ≡ 64
  pub silent : (out_after ≡ out) × (err_after ≡ err)

-- or memory was refused before the request began
abbrev pub Answers : CallRequest → List CallText → Output → Output → Output → Output → ℕ → Type 0
Answers request texts out out_after err err_after status =
    AnswersCall request texts out out_after err err_after status
    ⊎ IsWrongCall request texts out out_after err err_after status
    ⊎ AnswersNoRequest (λ printed. Some printed.items) (λ printed. Some printed.items) NoMemory out out_after err
    err_after status

-- ---- the buffers of the caller

-- the text is at the front of the buffer, as far as it fits; `needed` is its length
pub record Puts (text old new : List ℕ) (needed : ℕ) : Type 0 where
  pub front : new ≡ take (length old) text ++ drop (length text) old
  pub is_needed : needed ≡ length text

-- the two texts of an answer
pub record Prints (request : CallRequest) (texts : List CallText) (status : ℕ) (text report : List ℕ) : Type 0 where
  pub out : Output
  pub out_after : Output
  pub err : Output
  pub err_after : Output
  pub empty : ((inner_of out).items ≡ []) × ((inner_of err).items ≡ [])
  pub works : (has_failed out_after ≡ false) × (has_failed err_after ≡ false)
  pub answers : Answers request texts out out_after err err_after status
  pub is_text : text ≡ (inner_of out_after).items
  pub is_report : report ≡ (inner_of err_after).items

-- both texts are put into the buffers
pub record PutsBoth (request : CallRequest) (texts : List CallText) (out out_new : List ℕ) (needed : ℕ)
    (err err_new : List ℕ) (err_needed status : ℕ) : Type 0 where
  pub text : List ℕ
  pub report : List ℕ
  pub prints : Prints request texts status text report
  pub puts : Puts text out out_new needed
  pub puts_report : Puts report err err_new err_needed

-- `cats_call`: the program's answer to the request on these texts is put into both buffers
--
-- Or memory for them was refused, and nothing is put there.
abbrev pub CallsProgram : CallRequest → List CallText → List ℕ → List ℕ → ℕ → List ℕ → List ℕ → ℕ → ℕ → Type 0
CallsProgram request texts out out_new needed err err_new err_needed status =
    PutsBoth request texts out out_new needed err err_new err_needed status
    ⊎ ((status ≡ 4) × Puts [] out out_new needed × Puts [] err err_new err_needed)
