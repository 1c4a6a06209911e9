-- `Partners::take_for`
use Rattle.analysis.proofs.Common.{rules, ◌≡◌, ◌∙◌, ◌+◌, ℕ, List, [], map, take, sym, subst, arith, Some, None, MatchOption, Vec, Global, take_all, PlainBid}
use Rattle.analysis.proofs.Common.{seen_bid, Atom, offers, bidders_on, IsCandidate, IsRarestIfAny, rarer_candidate}
use Rattle.analysis.proofs.Comparing.BidsOnBundles.{bundles_before, one_more_bundle_of}
use Rattle.analysis.proofs.Comparing.RarestBundle.{no_partner, one_more_bundle, rarest_is_partner}
use Rattle.analysis.proofs.differences.partners.Partners.take_for.Goals as goal

pub loop-i-preserved : goal.loop-i-preserved
loop-i-preserved g c =
    let bids : List PlainBid = c.args.bidder.now in
    let i = c.loop-i.i in
    let bid = seen_bid c.at.result in
    let best = c.loop-i.rarest in
    let found = c.candidate.result in
    record {
      excess = c.candidate.ensures.excess ∙ c.loop-i.invariant.excess;
      partners = λ right waiting are. c.candidate.ensures.partners right waiting (c.loop-i.invariant.partners right waiting are);
      rarest = λ right waiting are.
          let excess = c.args.self.now.excess.items in
          let candidate = subst (λ (v : Vec ℕ Global). MatchOption found (bidders_on right waiting bid.goods ≡ [])
          (IsCandidate right v.items waiting bid.goods)) c.loop-i.invariant.excess
          (c.candidate.ensures.candidate right waiting (c.loop-i.invariant.partners right waiting are)) in
          subst (IsRarestIfAny right excess waiting (map (λ (a : Atom (List ℕ)). a.bundle) (offers (take (i + 1) bids)))) (sym c.rarer-rarest.ensures)
          (subst (λ (bs : List (List ℕ)). IsRarestIfAny right excess waiting bs (rarer_candidate best found))
          (sym (one_more_bundle_of bids i bid c.at.ensures))
          (one_more_bundle right excess waiting _ bid.goods (bundles_before bids i bid c.at.ensures c.requires) best found
          (c.loop-i.invariant.rarest right waiting are) candidate));
    }

pub returns-in_err-index-clause-partner : goal.returns-in_err-index-clause-partner
returns-in_err-index-clause-partner g c = λ right waiting are.
    let bids : List PlainBid = c.args.bidder.now in
    let excess = c.args.self.now.excess.items in
    let all : take c.loop-i.i bids ≡ bids = take_all c.loop-i.i bids (omega (arith, c.loop-i-test.false, c.len-i-end.ensures)) in
    c.from_residual.ensures ∙ sym (no_partner right excess waiting (offers bids)
    (subst (λ (bs : List PlainBid). IsRarestIfAny right excess waiting (map (λ (a : Atom (List ℕ)). a.bundle) (offers bs)) None) all
    (subst (IsRarestIfAny right excess waiting (map (λ (a : Atom (List ℕ)). a.bundle) (offers (take c.loop-i.i bids)))) c.in_err-index.was
    (c.loop-i.invariant.rarest right waiting are))))

pub returns-in_err-index-clause-partners : goal.returns-in_err-index-clause-partners
returns-in_err-index-clause-partners g c = search (rules, c.from_residual.ensures, c.loop-i.invariant.partners)

pub returns-clause-partner : goal.returns-clause-partner
returns-clause-partner g c = λ right waiting are.
    let bids : List PlainBid = c.args.bidder.now in
    let excess = c.args.self.now.excess.items in
    let best = c.in_ok-index.field-0 in
    let all : take c.loop-i.i bids ≡ bids = take_all c.loop-i.i bids (omega (arith, c.loop-i-test.false, c.len-i-end.ensures)) in
    sym (rarest_is_partner right excess waiting (offers bids) best
    (subst (λ (bs : List PlainBid). IsRarestIfAny right excess waiting (map (λ (a : Atom (List ℕ)). a.bundle) (offers bs)) (Some best)) all
    (subst (IsRarestIfAny right excess waiting (map (λ (a : Atom (List ℕ)). a.bundle) (offers (take c.loop-i.i bids)))) c.in_ok-index.was
    (c.loop-i.invariant.rarest right waiting are))))

pub returns-clause-partners : goal.returns-clause-partners
returns-clause-partners g c = search (rules, c.take.ensures.partners, c.loop-i.invariant.partners)
