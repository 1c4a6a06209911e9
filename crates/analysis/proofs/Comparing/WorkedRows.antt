-- Changes of worked rows: those that the walk of two lists gives are computed.
use Rattle.analysis.proofs.Common.{ℕ, List, [], ◌∷◌, Some, None, All-nil, Atom, AllPairs-cons, AllPairs-nil, IsBefore, IsInOrder, ArePriceChanges, atom, change}
use Rattle.analysis.proofs.Common.{are_all}

none : IsInOrder []
none = AllPairs-nil IsBefore

one : (a : Atom (List ℕ)) → IsInOrder (a ∷ [])
one a = AllPairs-cons IsBefore a [] (All-nil (IsBefore a)) none

pub left_alone : ArePriceChanges (atom (0 ∷ []) 3 ∷ []) [] (change (0 ∷ []) (Some 3) None ∷ [])
left_alone = are_all (atom (0 ∷ []) 3 ∷ []) [] (one (atom (0 ∷ []) 3)) none

pub right_alone : (price : ℕ) → ArePriceChanges [] (atom (0 ∷ []) price ∷ []) (change (0 ∷ []) None (Some price) ∷ [])
right_alone price = are_all [] (atom (0 ∷ []) price ∷ []) none (one (atom (0 ∷ []) price))

pub right_alone_behind : ArePriceChanges [] (atom (1 ∷ []) 4 ∷ []) (change (1 ∷ []) None (Some 4) ∷ [])
right_alone_behind = are_all [] (atom (1 ∷ []) 4 ∷ []) none (one (atom (1 ∷ []) 4))

pub two_prices : ArePriceChanges (atom (0 ∷ []) 3 ∷ []) (atom (0 ∷ []) 4 ∷ []) (change (0 ∷ []) (Some 3) (Some 4) ∷ [])
two_prices = are_all (atom (0 ∷ []) 3 ∷ []) (atom (0 ∷ []) 4 ∷ []) (one (atom (0 ∷ []) 3)) (one (atom (0 ∷ []) 4))
