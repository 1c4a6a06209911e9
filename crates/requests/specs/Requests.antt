-- Requests, with the texts and numbers that they hold.
use Rattle.std.specs.Prelude.{ℕ, Bool, List, map, Option, option_map}
use Rattle.std.specs.Borrow.{Bor}
use Rattle.rounding.specs.declared.replacement.PriceRule.{PriceRule}
use Rattle.valuation.specs.declared.search.options.SearchOptions.{SearchOptions}
use Rattle.requests.specs.declared.request.Request.{Request}
use Rattle.requests.specs.declared.task.Task.{Task}

-- a request: a command, the paths of its files, list and folder, and its goods, bids and options
pub record PlainRequest : Type 0 where
  pub task : Task
  pub files : List (List ℕ)
  pub list : Option (List ℕ)
  pub goods : List ℕ
  pub bids : List ℕ
  pub prices : Option PriceRule
  pub options : SearchOptions
  pub progress : Bool
  pub null : Bool
  pub all : Bool
  pub table : Bool
  pub folder : Option (List ℕ)

-- the texts of words
abbrev pub texts_of : List (Bor (List ℕ)) → List (List ℕ)
texts_of = map (λ word. word.now)

-- a request of the code as a value
abbrev pub plain_request : Request → PlainRequest
plain_request request = record {
  task = request.task;
  files = texts_of request.files.items;
  list = option_map (λ list. list.now) request.list;
  goods = request.goods.items;
  bids = request.bids.items;
  prices = request.prices;
  options = request.options;
  progress = request.progress;
  null = request.null;
  all = request.all;
  table = request.table;
  folder = option_map (λ folder. folder.now) request.folder;
}
