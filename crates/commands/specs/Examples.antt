-- Files and requests for worked examples.
use Rattle.std.specs.Prelude.{ℕ, false, List, [], ◌∷◌, Option, Some, None}
use Rattle.bid_file.specs.Files.{PlainBid, PlainFile}
use Rattle.requests.specs.Requests.{PlainRequest}
use Rattle.requests.specs.declared.task.Task.{Task}
use Rattle.valuation.specs.declared.search.options.SearchOptions.{SearchOptions}

abbrev bid : ℕ → List ℕ → Option ℕ → PlainBid
bid price goods dummy = record { price = price; goods = goods; dummy = dummy }

-- a bid for two goods at the price of the bids for each
abbrev pub larger_bid : PlainFile
larger_bid = record {
  goods = 2;
  dummy = 0;
  bids = bid 3000000 (0 ∷ []) None ∷ bid 4000000 (1 ∷ []) None ∷ bid 7000000 (0 ∷ 1 ∷ []) None ∷ [];
}

-- an OR bidder with one bid, between the bids of an XOR bidder
abbrev pub xor_ladder : PlainFile
xor_ladder = record {
  goods = 2;
  dummy = 1;
  bids = bid 5000000 (0 ∷ []) (Some 0) ∷ bid 1500000 (1 ∷ []) None ∷ bid 6000000 (0 ∷ 1 ∷ []) (Some 0) ∷ [];
}

-- bids for two goods of three each, which share one, and a bid for all three
abbrev pub crossing_bids : PlainFile
crossing_bids = record {
  goods = 3;
  dummy = 0;
  bids = bid 4000000 (0 ∷ 1 ∷ []) None ∷ bid 4000000 (1 ∷ 2 ∷ []) None ∷ bid 7000000 (0 ∷ 1 ∷ 2 ∷ []) None ∷ [];
}

-- bids on one bundle, the first of which is of an XOR bidder
abbrev pub repeated_bundle : PlainFile
repeated_bundle = record {
  goods = 2;
  dummy = 1;
  bids = bid 5000000 (0 ∷ 1 ∷ []) (Some 0) ∷ bid 3000000 (0 ∷ []) None ∷ bid 4000000 (0 ∷ 1 ∷ []) None
      ∷ bid 7000000 (0 ∷ 1 ∷ []) None ∷ [];
}

-- a request for this command, with searches that go so
abbrev pub asked : Task → SearchOptions → PlainRequest
asked task options = record {
  task = task;
  files = [];
  list = None;
  goods = [];
  bids = [];
  prices = None;
  options = options;
  progress = false;
  null = false;
  all = false;
  table = false;
  folder = None;
}
