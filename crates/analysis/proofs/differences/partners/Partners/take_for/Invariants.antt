-- `Partners::take_for`
use Rattle.analysis.proofs.Common.{◌≡◌, ℕ, List, map, take, Atom, offers, ArePartners, IsRarestIfAny}
use Rattle.analysis.proofs.differences.partners.Partners.take_for.Given as goal

-- the candidate is that on the rarest of the bundles so far, if a bidder waits on one of them
abbrev pub invariant-loop-i : goal.invariant-loop-i
invariant-loop-i g l = record {
  excess : l.self.excess ≡ l.initial.self.excess;
  partners : (right : List (List (Atom (List ℕ)))) (waiting : List ℕ) → ArePartners right waiting l.initial.self → ArePartners right waiting l.self;
  rarest : (right : List (List (Atom (List ℕ)))) (waiting : List ℕ) → ArePartners right waiting l.initial.self
      → IsRarestIfAny right l.initial.self.excess.items waiting (map (λ a. a.bundle) (offers (take l.i l.bidder))) l.rarest;
}
