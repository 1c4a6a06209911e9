-- `changes_are_determined`: each part of the differences is determined.
use Rattle.analysis.proofs.Common.{◌≡◌, ℕ, List, Option, ap, ap₂, sym, ◌∙◌, Atom, PlainBidderChange, AreBidderChanges, PlainChange}
use Rattle.analysis.proofs.Comparing.ExchangedChanges.{one_list_of_changes}
use Rattle.analysis.proofs.Comparing.SamePartners.{one_with_partners}
use Rattle.analysis.proofs.laws.changes_are_determined.Goals as goal

one_list_of_bidders : (left right : List (List (Atom (List ℕ)))) (one other : List PlainBidderChange) → AreBidderChanges left right one
    → AreBidderChanges left right other → one ≡ other
one_list_of_bidders left right one other are also = one_with_partners left right one other are also (are.partners ∙ sym also.partners)

pub returns : goal.returns
returns c = record {
  all = λ a b one other are also.
      ap (λ (goods : Option (ℕ × ℕ)). record { goods = goods; bundles = one.bundles; bidders = one.bidders }) (are.goods ∙ sym also.goods)
      ∙ ap₂ (λ (bundles : List PlainChange) (bidders : List PlainBidderChange). record { goods = other.goods; bundles = bundles; bidders = bidders })
      (one_list_of_changes a.or_atoms b.or_atoms one.bundles other.bundles are.bundles also.bundles)
      (one_list_of_bidders a.xor_bidders b.xor_bidders one.bidders other.bidders are.bidders also.bidders);
  bidders = one_list_of_bidders;
}
