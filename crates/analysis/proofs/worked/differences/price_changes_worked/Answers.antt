-- `price_changes_worked`
use Rattle.analysis.proofs.Common.{◌≡◌, ℕ, [], ◌∷◌, refl, sym, arith, Some, None, All-head, none-some, same_Some, Contains-nil, atom, change, IsPriceChange}
use Rattle.analysis.proofs.Common.{ArePriceChanges}
use Rattle.analysis.proofs.Comparing.SameLists.{no_price_changes}
use Rattle.analysis.proofs.Comparing.WorkedRows.{left_alone, right_alone, two_prices}
use Rattle.analysis.proofs.worked.differences.price_changes_worked.Goals as goal

pub returns-clause-left_only : goal.returns-clause-left_only
returns-clause-left_only c = left_alone

pub returns-clause-right_only : goal.returns-clause-right_only
returns-clause-right_only c = right_alone 3

pub returns-clause-another_price : goal.returns-clause-another_price
returns-clause-another_price c = two_prices

pub returns-clause-equal : goal.returns-clause-equal
returns-clause-equal c = no_price_changes (atom (0 ∷ []) 3 ∷ [])

pub returns-clause-missing : goal.returns-clause-missing
returns-clause-missing c = λ h. Contains-nil (0 ∷ []) (h.all (0 ∷ []) (λ e. none-some 3 (sym e)))

not_four : (price : ℕ) → price ≡ 3 → Some price ≡ Some 4 → ⊥
not_four price e f = let g : price ≡ 4 = same_Some price 4 f in omega arith

wrong_price : ArePriceChanges (atom (0 ∷ []) 3 ∷ []) [] (change (0 ∷ []) (Some 4) None ∷ []) → ⊥
wrong_price h = not_four 3 refl (sym (All-head (IsPriceChange (atom (0 ∷ []) 3 ∷ []) []) (change (0 ∷ []) (Some 4) None) [] h.each).on_left)

pub returns-clause-wrong_price : goal.returns-clause-wrong_price
returns-clause-wrong_price c = wrong_price
