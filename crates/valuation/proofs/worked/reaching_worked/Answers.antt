-- `reaching_worked`
use Rattle.valuation.proofs.Common.{arith, [], ◌∷◌, both_ways, has_good, apart_at, has_head}
use Rattle.valuation.proofs.worked.reaching_worked.Goals as goal

pub returns-clause-shared_good : goal.returns-clause-shared_good
returns-clause-shared_good c =
    λ h.
    let apart = h.packing.apart 0 1 (record { bundle = []; price = 0 }) (omega arith) (omega arith) in
    both_ways (has_good (0 ∷ []) 0) (apart_at (0 ∷ []) (0 ∷ []) 0 apart (has_head 0 [])) (has_head 0 [])
