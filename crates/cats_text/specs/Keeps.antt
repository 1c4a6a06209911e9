-- What a reader keeps of a bid.
use Rattle.std.specs.Prelude.{ℕ, List, [], None}
use Rattle.bid_file.specs.Files.{PlainBid}
use Rattle.cats_text.specs.declared.parser.Draft.{Draft}

-- each bid is kept whole
abbrev pub whole : PlainBid → PlainBid
whole = λ b. b

-- a bid of which only its number is kept
abbrev pub number_alone : PlainBid
number_alone = record { price = 0; goods = []; dummy = None }

-- a draft with these goods
abbrev pub with_goods : Draft → List ℕ → PlainBid
with_goods draft goods = record { price = draft.price; goods = goods; dummy = draft.dummy }
