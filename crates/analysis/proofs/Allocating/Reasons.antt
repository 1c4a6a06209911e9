-- What the reasons of the bids say. A bid that is bid k of the canonical file is kept as bid k, and one such bid is found.
use Rattle.analysis.proofs.Common.{◌≡◌, ℕ, ◌<◌, true, length, Option, Some, None, refl, ap, ◌∙◌, Contains, IfSome, find, unwrap_or, both_ways, eq-eqb, Keep}
use Rattle.analysis.proofs.Common.{PlainFile, IsPlainFile, found_none, found_some, kept_bids, numbers_of, IsKeptAs, is_kept_as, number_kept_as, range_contains}
use Rattle.analysis.specs.Reasons.{reason_of}
use Rattle.analysis.proofs.Explaining.Deciding.{kept_decided, kept_from, priced_within}
use Rattle.analysis.proofs.Explaining.KeptBids.{kept-is-best}
use Rattle.analysis.proofs.Explaining.TrueReasons.{reason_is_decided}
use Rattle.analysis.proofs.Common.{in_range}

pub kept_reason : (f : PlainFile) → IsPlainFile f → (j k : ℕ) → IsKeptAs f j k → reason_of f j ≡ Keep k
kept_reason f is j k kept = kept_decided f j k kept (reason_of f j) (reason_is_decided f is j (priced_within f j kept.bid.positive))

pub number_kept_is : (f : PlainFile) → IsPlainFile f → (k : ℕ) → k < length (kept_bids f) → IsKeptAs f (number_kept_as f k) k
number_kept_is f is k l = by (find (λ i. is_kept_as k (reason_of f i)) (numbers_of f)) refl (found_some (λ i. is_kept_as k (reason_of f i)) (numbers_of f))
  where
    by : (o : Option ℕ) → find (λ i. is_kept_as k (reason_of f i)) (numbers_of f) ≡ o
        → IfSome o (λ i. Contains (numbers_of f) i × (is_kept_as k (reason_of f i) ≡ true)) → IsKeptAs f (unwrap_or o 0) k
    by None e h =
        let j = kept-is-best f is k l in
        let t : is_kept_as k (reason_of f j.0) ≡ true = ap (is_kept_as k) (kept_reason f is j.0 k j.2) ∙ eq-eqb k k refl in
        absurd (both_ways (is_kept_as k (reason_of f j.0)) (found_none (λ i. is_kept_as k (reason_of f i)) (numbers_of f) e j.0
        (range_contains (length f.bids) j.0 j.1)) t)
    by (Some i) e h = kept_from f i k (reason_of f i) (reason_is_decided f is i (in_range (length f.bids) i h.0)) h.1
