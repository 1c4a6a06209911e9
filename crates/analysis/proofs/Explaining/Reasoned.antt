-- The reasons are put at the numbers of their bids. All bids in order are all bids of the file, so in the end each number has its reason.
use Rattle.analysis.proofs.Common.{rules, ◌≡◌, ℕ, ◌+◌, ◌<◌, ◌≤◌, List, length, map, get_or, set, ap, ◌∙◌, subst, arith, length-map, map-set, get_or-set_same}
use Rattle.analysis.proofs.Common.{get_or-set_other, get_or_default, PlainFile, bid_at, Zero, plain_reason, reason_at, reasons_of, AreInOrder, NumberedBid}
use Rattle.analysis.proofs.Common.{fill_by_all, Reason}
use Rattle.analysis.specs.Reasons.{reason_of}
use Rattle.analysis.proofs.Explaining.BestBids.{at_number}

-- the first bids in order have their reasons
abbrev pub HaveReasons : PlainFile → List NumberedBid → List Reason → ℕ → Type 0
HaveReasons f bids reasons count =
    (q : ℕ) (d : NumberedBid) → q < count → reason_at (map plain_reason reasons) (get_or bids q d).number ≡ reason_of f (get_or bids q d).number

pub one_more_reason : (f : PlainFile) (bids : List NumberedBid) (reasons : List Reason) (count : ℕ) (bid : NumberedBid) (reason : Reason)
    → length reasons ≡ length f.bids → HaveReasons f bids reasons count → count < length bids → get_or bids count bid ≡ bid → bid.number < length f.bids
    → plain_reason reason ≡ reason_of f bid.number → HaveReasons f bids (set reasons bid.number reason) (count + 1)
one_more_reason f bids reasons count bid reason long before within here below is q d l =
    search (rules, map-set, length-map, get_or-set_same, get_or-set_other, get_or_default)

pub all_reasoned : (f : PlainFile) (bids : List NumberedBid) (reasons : List Reason) (count : ℕ) → AreInOrder f bids → length reasons ≡ length f.bids
    → length bids ≤ count → HaveReasons f bids reasons count → map plain_reason reasons ≡ reasons_of f
all_reasoned f bids reasons count order long all reasoned =
    fill_by_all (reason_of f) (map plain_reason reasons) (length f.bids) Zero (length-map reasons plain_reason ∙ long) (λ i l.
    let r = at_number f bids order (bid_at f i) i l in
    let c = r.1 in
    let within = c.1 in
    let e : (get_or bids c.0 r.0).number ≡ i = ap (λ (n : NumberedBid). n.number) c.2 ∙ r.2 in
    subst (λ (n : ℕ). reason_at (map plain_reason reasons) n ≡ reason_of f n) e (reasoned c.0 r.0 (omega arith)))
