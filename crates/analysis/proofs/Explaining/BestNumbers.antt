-- The number of a bidder's best bid on a bundle. One of the bids with the greatest price there is the best, and it alone.
use Rattle.analysis.proofs.Common.{rules, ◌≡◌, ℕ, ◌<◌, true, ◌&&◌, length, List, Option, Some, refl, arith, AllPairs, range_with_len, and_from, and_parts}
use Rattle.analysis.proofs.Common.{false_from_ne_true, get_or-range_with_len, length-range_with_len, PlainBid, PlainFile, atom_of, find_first, bid_at, is_best}
use Rattle.analysis.proofs.Common.{greatest_price-member, numbers_of, are_alike, best_number, IsBestFor, range_contains}
use Rattle.analysis.proofs.Explaining.BestBids.{HaveOneKey, one_key, alike_from}
use Rattle.analysis.proofs.Explaining.KeptBidsBest.{atom_there, atoms_of_bidder, best-once, best_of_greatest, is_of, its_own}

pub numbers_rise : (n : ℕ) → AllPairs (λ i j. i < j) (range_with_len 0 n)
numbers_rise n i j d l within = omega (arith, length-range_with_len, get_or-range_with_len)

abbrev bid_on : Option ℕ → List ℕ → PlainBid
bid_on dummy goods = record { price = 0; goods = goods; dummy = dummy }

pub best_number_is : (f : PlainFile) (dummy : Option ℕ) (goods : List ℕ) (j : ℕ) → j < length f.bids → is_best f j ≡ true
    → HaveOneKey (bid_at f j) (bid_on dummy goods) → best_number f dummy goods ≡ Some j
best_number_is f dummy goods j l best own =
    find_first (λ x y. x < y) (λ i. are_alike (bid_at f i) (bid_on dummy goods) && is_best f i) (numbers_of f) (numbers_rise (length f.bids)) j
    (range_contains (length f.bids) j l)
    (search (rules, and_from, alike_from))
    (search (rules, false_from_ne_true, and_parts, one_key, best-once, alike_from))

pub best_number_for : (f : PlainFile) (i j : ℕ) → IsBestFor f i j → best_number f (bid_at f i).dummy (bid_at f i).goods ≡ Some j
best_number_for f i j h = search (rules, one_key, best_number_is)

-- each bid with a price above 0 has a best bid of its bidder on its goods
pub best_there : (f : PlainFile) (i : ℕ) → i < length f.bids → 0 < (bid_at f i).price → (j : ℕ) × IsBestFor f i j
best_there f i l positive = let dummy = (bid_at f i).dummy in
    let low = greatest_price-member (atoms_of_bidder f dummy) (atom_of (bid_at f i)) (atom_there (is_of dummy) f i l (its_own dummy (bid_at f i) refl)) in
    search (rules, best_of_greatest, alike_from)
