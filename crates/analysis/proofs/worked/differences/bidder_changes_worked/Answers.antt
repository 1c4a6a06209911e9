-- `bidder_changes_worked`
use Rattle.analysis.proofs.Common.{rules, ◌≡◌, ℕ, ◌<◌, Bool, false, List, [], ◌∷◌, refl, ap, arith, Option, Some, None, All, is_some, both_ways, All-nil, Atom}
use Rattle.analysis.proofs.Common.{All-cons, IsBidderChange, PlainBidderChange, atom}
use Rattle.analysis.proofs.Comparing.SameLists.{no_bidder_changes}
use Rattle.analysis.proofs.Comparing.WorkedRows.{left_alone, right_alone, right_alone_behind, two_prices}
use Rattle.analysis.proofs.worked.differences.bidder_changes_worked.Goals as goal

one_each : (left right : List (List (Atom (List ℕ)))) (c : PlainBidderChange) → IsBidderChange left right c → All (IsBidderChange left right) (c ∷ [])
one_each left right c h = All-cons (IsBidderChange left right) c [] h (All-nil (IsBidderChange left right))

two_each : (left right : List (List (Atom (List ℕ)))) (c d : PlainBidderChange) → IsBidderChange left right c → IsBidderChange left right d
    → All (IsBidderChange left right) (c ∷ d ∷ [])
two_each left right c d h k = All-cons (IsBidderChange left right) c (d ∷ []) h (one_each left right d k)

abbrev has_left_first : List PlainBidderChange → Bool
has_left_first [] = false
has_left_first (c ∷ rest) = is_some c.left

not_both : (xs : List ℕ) → xs ≡ [] → xs ≡ 0 ∷ [] → ⊥
not_both xs e f = absurd (cc)

not_zero_one : (n : ℕ) → n ≡ 0 → n ≡ 1 → ⊥
not_zero_one n e f = omega arith

pub returns-clause-equal : goal.returns-clause-equal
returns-clause-equal c = no_bidder_changes ((atom (0 ∷ []) 3 ∷ []) ∷ [])

pub returns-clause-left_only : goal.returns-clause-left_only
returns-clause-left_only c = search (rules, one_each, left_alone)

pub returns-clause-beside : goal.returns-clause-beside
returns-clause-beside c = search (rules, one_each, two_prices)

pub returns-clause-missing : goal.returns-clause-missing
returns-clause-missing c = λ h. not_both [] refl h.lefts

pub returns-clause-right_missing : goal.returns-clause-right_missing
returns-clause-right_missing c = λ h. not_zero_one 0 refl (h.rights 0)

pub returns-clause-left_first : goal.returns-clause-left_first
returns-clause-left_first c = search (rules, two_each, left_alone, right_alone_behind)

not_alone : (o p : Option ℕ) → o ∷ [] ≡ p ∷ [] → o ≡ None → p ≡ Some 0 → ⊥
not_alone o p e f g = absurd (cc)

pub returns-clause-apart : goal.returns-clause-apart
returns-clause-apart c = λ h. not_alone None (Some 0) h.partners refl refl

pub returns-clause-right_first : goal.returns-clause-right_first
returns-clause-right_first c = λ h. both_ways false refl (ap has_left_first h.alone_last)

pub returns-clause-rights_rise : goal.returns-clause-rights_rise
returns-clause-rights_rise c = search (rules, two_each, right_alone)

pub returns-clause-rights_fall : goal.returns-clause-rights_fall
returns-clause-rights_fall c = λ h. let less : 1 < 0 = h.alone_in_order.0.0 in omega arith
