-- The bids of a bidder, as they lie in its file and as they are seen.
use Rattle.analysis.proofs.Common.{rules, ◌≡◌, ℕ, ◌<◌, List, [], length, map, get_or, take, true, ◌||◌, sym, ap, ◌∙◌, subst, Option, Some, None, All, IfSome}
use Rattle.analysis.proofs.Common.{is_some, get_or-map, length-map, PlainBid, Atom, IsInOrder, offers, PlainChange, ArePriceChanges, bidder_at, bids_at}
use Rattle.analysis.proofs.Common.{All-get_or}

pub within : (count : ℕ) (o : Option ℕ) (i : ℕ) → o ≡ Some i → IfSome o (λ index. index < count) → i < count
within count o i e h = subst (λ (p : Option ℕ). IfSome p (λ index. index < count)) e h

module _ (bidders : List (List PlainBid)) (i : ℕ) (bids : List PlainBid) (l : i < length bidders) (is : bids ≡ get_or bidders i bids) where
  pub bids_are : offers bids ≡ bidder_at (map offers bidders) i
  bids_are = ap offers is ∙ sym (get_or-map offers bidders i bids [] l)

  pub bids_in_order : All IsInOrder (map offers bidders) → IsInOrder (offers bids)
  bids_in_order h = search (rules, length-map, bids_are, All-get_or)

  pub bids_at_are : (o : Option ℕ) → o ≡ Some i → offers bids ≡ bids_at (map offers bidders) o
  bids_at_are o e = bids_are ∙ sym (ap (bids_at (map offers bidders)) e)

pub none_at : (bidders : List (List PlainBid)) (o : Option ℕ) (bids none : List PlainBid) → o ≡ None → none ≡ take 0 bids
    → offers none ≡ bids_at (map offers bidders) o
none_at bidders o bids none e f = ap offers f ∙ sym (ap (bids_at (map offers bidders)) e)

pub changes_at : (one other left right : List (Atom (List ℕ))) (changes more : List PlainChange) → one ≡ left → other ≡ right → more ≡ changes
    → ArePriceChanges one other changes → ArePriceChanges left right more
changes_at one other left right changes more e f g h = search (rules)

pub none_of_both : (own other : Option ℕ) → own ≡ None → other ≡ None → is_some own || is_some other ≡ true → ⊥
none_of_both own other e f some = search (rules)
