-- What a caller in C writes, for worked rows.
use Rattle.std.specs.Prelude.{ℕ, Bool, true, List, [], ◌∷◌}
use Rattle.std.specs.Borrow.{Bor}
use Rattle.cats_c.specs.declared.call.CallRequest.{CallRequest}
use Rattle.cats_c.specs.declared.call.CallText.{CallText}

abbrev pub lent : List ℕ → Bor (List ℕ)
lent list = record { ref_ptr = (0, 0); now = list }

-- a text of this name
abbrev pub named : List ℕ → CallText
named name = record { bytes = lent []; name = lent name }

-- a request for the command of this number, of one good and one bid
abbrev pub asked : ℕ → ℕ → Bool → ℕ → CallRequest
asked task prices bound total = record {
  goods = lent (7 ∷ []);
  bids = lent (8 ∷ []);
  steps = 5;
  total = total;
  task = task;
  prices = prices;
  bound = bound;
  all = true;
  null = true;
  table = true;
}
