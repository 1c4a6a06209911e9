-- `all_differences_worked`
use Rattle.analysis.proofs.Common.{[], ◌∷◌, refl, sym, none-some, Contains-nil, atom}
use Rattle.analysis.proofs.Comparing.SameLists.{no_bidder_changes, no_price_changes}
use Rattle.analysis.proofs.Comparing.WorkedRows.{two_prices}
use Rattle.analysis.proofs.worked.differences.all_differences_worked.Goals as goal

pub returns-clause-goods : goal.returns-clause-goods
returns-clause-goods c = record { goods = refl; bundles = no_price_changes []; bidders = no_bidder_changes [] }

pub returns-clause-bids : goal.returns-clause-bids
returns-clause-bids c = record { goods = refl; bundles = two_prices; bidders = no_bidder_changes [] }

pub returns-clause-both : goal.returns-clause-both
returns-clause-both c = record { goods = refl; bundles = two_prices; bidders = no_bidder_changes [] }

pub returns-clause-same : goal.returns-clause-same
returns-clause-same c = record { goods = refl; bundles = no_price_changes (atom (0 ∷ []) 3 ∷ []); bidders = no_bidder_changes [] }

pub returns-clause-missing : goal.returns-clause-missing
returns-clause-missing c = λ h. Contains-nil (0 ∷ []) (h.bundles.all (0 ∷ []) (λ e. none-some 3 (sym e)))

pub returns-clause-missing_beside_goods : goal.returns-clause-missing_beside_goods
returns-clause-missing_beside_goods c = λ h. Contains-nil (0 ∷ []) (h.bundles.all (0 ∷ []) (λ e. none-some 3 (sym e)))

pub returns-clause-goods_missing : goal.returns-clause-goods_missing
returns-clause-goods_missing c = λ h. none-some (1, 2) h.goods

pub returns-clause-equal_goods : goal.returns-clause-equal_goods
returns-clause-equal_goods c = λ h. none-some (1, 1) (sym h.goods)
