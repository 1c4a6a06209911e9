-- The right bidders in excess, and which of them wait for a partner.
use Rattle.std.specs.Prelude.{◌≡◌, ◌≢◌, ◌<◌, ℕ, nat_lt, if◌then◌else◌, Option, Some, None, List, [], ◌∷◌, ◌++◌, false}
use Rattle.std.specs.Prelude.{filter, length, slice_get, All}
use Rattle.std.specs.Prelude.{Contains}
use Rattle.std.specs.Ordering.{is_gt}
use Rattle.goods_set.specs.Bundles.{IsRising}
use Rattle.valuation.specs.declared.atom.Atom.{Atom}
use Rattle.analysis.specs.BidderChanges.{bidders_on, rarer}
use Rattle.analysis.specs.Internal.Holders.{ArePassed, found_at, holders_at, waits_at}
use Rattle.analysis.specs.declared.differences.holders.Candidate.{Candidate}
use Rattle.analysis.specs.declared.differences.partners.Partners.{Partners}

-- the index that is taken, if there is one, is the only one that is gone, and the others stay in order
abbrev pub TakesPartner : List ℕ → List ℕ → Option ℕ → Type 0
TakesPartner before after None = after ≡ before
TakesPartner before after (Some index) = (lower : List ℕ) × (higher : List ℕ) × (before ≡ lower ++ index ∷ higher)
    × (after ≡ lower ++ higher)

-- those in excess are listed by bundle, and these of them wait
pub record ArePartners (right : List (List (Atom (List ℕ)))) (waiting : List ℕ) (partners : Partners) : Type 0 where
  pub within : All (λ i. i < length right) partners.excess.items
  pub rising : IsRising partners.excess.items
  pub holders : (bundle : List ℕ) → holders_at partners.holders bundle ≡ bidders_on right partners.excess.items bundle
  pub passed : (bundle : List ℕ) → ArePassed partners.waits.items (found_at partners.holders bundle)
  pub wait : filter (waits_at partners.waits.items) partners.excess.items ≡ waiting

-- the first bidder that waits and has a bid on the bundle, and how many have one there
pub record IsCandidate (right : List (List (Atom (List ℕ)))) (excess waiting bundle : List ℕ) (c : Candidate)
    : Type 0 where
  pub first : slice_get (bidders_on right waiting bundle) 0 ≡ Some c.index
  pub count : c.count ≡ length (bidders_on right excess bundle)

-- of two the one whose bundle fewer have, and of two as rare ones the first
abbrev pub rarer_candidate : Option Candidate → Option Candidate → Option Candidate
rarer_candidate None other = other
rarer_candidate (Some one) None = Some one
rarer_candidate (Some one) (Some other) = if nat_lt other.count one.count then Some other else Some one

-- it is that on one of the bundles, and none on which a bidder waits is rarer
pub record IsRarest (right : List (List (Atom (List ℕ)))) (excess waiting : List ℕ) (bundles : List (List ℕ))
    (c : Candidate) : Type 0 where
  pub bundle : List ℕ
  pub there : Contains bundles bundle
  pub is : IsCandidate right excess waiting bundle c
  pub none_rarer : All (λ other. bidders_on right waiting other ≢ [] → is_gt (rarer right excess bundle other) ≡ false)
      bundles

-- the rarest of these bundles on which a bidder waits, if there is one
abbrev pub IsRarestIfAny : List (List (Atom (List ℕ))) → List ℕ → List ℕ → List (List ℕ) → Option Candidate → Type 0
IsRarestIfAny right excess waiting bundles None = All (λ bundle. bidders_on right waiting bundle ≡ []) bundles
IsRarestIfAny right excess waiting bundles (Some c) = IsRarest right excess waiting bundles c
