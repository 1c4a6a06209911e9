-- `Partners::of`
use Rattle.analysis.proofs.Common.{◌≡◌, ◌∙◌, ◌<◌, ℕ, List, Bool, true, false, get_or, length, map, ap, sym, subst, arith, All, get_or-replicate, length-map}
use Rattle.analysis.proofs.Common.{All-weaker, offers, bidders_on, waits_at}
use Rattle.analysis.proofs.Comparing.LawsLists.{all_pass}
use Rattle.analysis.proofs.differences.partners.Partners.of.Goals as goal

pub returns-clause-partners : goal.returns-clause-partners
returns-clause-partners g c =
    let bidders = c.args.bidders.now in
    let excess = c.args.excess.items in
    record {
      within = subst (λ (n : ℕ). All (λ i. i < n) excess) (sym (length-map bidders offers)) c.requires.within;
      rising = c.requires.rising;
      holders = λ bundle. c.in_ok-holders_of.ensures.indices bundle ∙ ap (λ (is : List ℕ). bidders_on (map offers bidders) is bundle) c.deref.ensures.value;
      passed = λ bundle k l. let none = c.in_ok-holders_of.ensures.passed bundle in absurd (omega arith);
      wait = all_pass (waits_at c.in_ok-vec.field-0.items) excess (All-weaker (λ i. i < length bidders) (λ i. waits_at c.in_ok-vec.field-0.items i ≡ true)
          (λ i l. ap (λ (bs : List Bool). get_or bs i false) (c.in_ok-vec.ensures.items_if_clones_equal (λ y e. e))
          ∙ get_or-replicate (length bidders) i true false l) excess c.requires.within);
    }
