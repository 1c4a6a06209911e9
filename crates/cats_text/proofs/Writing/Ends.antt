-- A text that is written from its end to its start.
use Rattle.cats_text.proofs.Common.{◌≡◌, ℕ, ◌-◌, ◌<◌, ◌≤◌, List, ◌∷◌, ◌++◌, codes, length, take, drop, set, get_or, decimal, sym, ap, ◌∙◌, arith, append_assoc}
use Rattle.cats_text.proofs.Common.{take-take, drop-set, drop-drop, drop-append-le, take_more, take_all, get_or-take, length-take-le, length-drop}
use Rattle.cats_text.proofs.Common.{flat_map-append, common_steps, PlainBid, dummy_good, price_text, tabbed, bid_text, append-nil}

-- a byte in place of the first
pub byte_in_place : (xs text rest : List ℕ) (start b : ℕ) → start < length xs → 0 < length text → drop start xs ≡ text ++ rest
    → drop start (set xs start b) ≡ (b ∷ drop 1 text) ++ rest
byte_in_place xs text rest start b inside some e =
    drop-set xs start b inside ∙ ap (λ t. b ∷ t) (sym (drop-drop 1 start xs) ∙ ap (drop 1) e ∙ drop-append-le 1 text rest some)

-- ---- goods, the last one first

tabbed_all : (gs hs : List ℕ) → tabbed (gs ++ hs) ≡ tabbed gs ++ tabbed hs
tabbed_all gs hs = flat_map-append (λ g. 9 ∷ decimal g) gs hs

pub last_good : (gs rest : List ℕ) → 1 ≤ length gs
    → tabbed (take (length gs - 1) gs) ++ ((9 ∷ decimal (get_or gs (length gs - 1) 0)) ++ rest) ≡ tabbed gs ++ rest
last_good gs rest some = grind (arith, common_steps, append-nil, append_assoc, tabbed_all, take_all, take_more)

-- those that are left are the prefix of them all
pub shorter_prefix : (xs whole : List ℕ) → xs ≡ take (length xs) whole → take (length xs - 1) xs ≡ take (length (take (length xs - 1) xs)) whole
shorter_prefix xs whole e = grind (arith, common_steps, length-take-le, take-take)

pub last_of_prefix : (xs whole : List ℕ) → 1 ≤ length xs → xs ≡ take (length xs) whole → get_or xs (length xs - 1) 0 ≡ get_or whole (length xs - 1) 0
last_of_prefix xs whole some e = ap (λ ys. get_or ys (length xs - 1) 0) e ∙ get_or-take (length xs) whole (length xs - 1) 0 (omega arith)

-- ---- a line, in the order in which its parts are written

pub whole_line : (real goods number : ℕ) (bid : PlainBid) → real ≡ goods
    → (decimal number ++ 9 ∷ price_text bid.price) ++ (tabbed bid.goods ++ (tabbed (dummy_good real bid.dummy) ++ codes "\t#\n")) ≡ bid_text goods number bid
whole_line real goods number bid same = grind (arith, common_steps, append_assoc, tabbed_all)

-- a buffer from a place on
pub rest_of : (size start : ℕ) (line : List ℕ) → length line ≡ size → take (size - start) (drop start line) ≡ drop start line
rest_of size start line e = take_all (size - start) (drop start line) (omega (arith, length-drop start line))
