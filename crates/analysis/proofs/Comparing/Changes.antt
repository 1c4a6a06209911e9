-- Changes that are put together one by one: those of the left bidders, and then those of the right bidders that are left.
use Rattle.analysis.proofs.Common.{rules, ◌≡◌, ℕ, ◌+◌, true, cond, List, [], ◌∷◌, ◌++◌, length, map, append_assoc, refl, sym, ap, ap₂, ◌∙◌, subst, arith, Some}
use Rattle.analysis.proofs.Common.{Option, None, All, is_some, cons_option, range_with_len, is_none, nat_cmp, is_eq, filter-append, All-append, All-head, Atom}
use Rattle.analysis.proofs.Common.{All-push, All-tail, All-weaker, sum_by-append, sum_by-cons, append-nil, map_push, IsRising, count_of, PlainBidderChange}
use Rattle.analysis.proofs.Common.{IsBidderChange, AreBidderChanges, bidder_at, excess_bidders, is_excess, lefts_of, partner_of, rights_of, waiting_after}
use Rattle.analysis.proofs.Common.{without_partner, with_left, AreLefts, AreRest, TakesPartner, filter_map-append, IsRising-filter, range_rises}
use Rattle.analysis.specs.BidderChanges.{right_alone}
use Rattle.analysis.proofs.Comparing.LawsLists.{all_pass, none_pass}
use Rattle.analysis.proofs.Comparing.Waiting.{All-counted, partners_more, still_rise, taken, taken_counted, waiting_more}

pub lefts-append : (xs ys : List PlainBidderChange) → lefts_of (xs ++ ys) ≡ lefts_of xs ++ lefts_of ys
lefts-append xs ys = filter_map-append (λ c. c.left) xs ys

pub rights-append : (xs ys : List PlainBidderChange) → rights_of (xs ++ ys) ≡ rights_of xs ++ rights_of ys
rights-append xs ys = filter_map-append (λ c. c.right) xs ys

pub count-append : (i : ℕ) (xs ys : List ℕ) → count_of nat_cmp i (xs ++ ys) ≡ count_of nat_cmp i xs + count_of nat_cmp i ys
count-append i xs ys = sum_by-append (λ y. cond {A = ℕ} (is_eq (nat_cmp i y)) 1 0) xs ys

pub no_lefts_alone : (changes : List PlainBidderChange) → All (λ c. c.left ≡ None) changes → lefts_of changes ≡ []
no_lefts_alone [] h = refl
no_lefts_alone (c ∷ changes) h =
    ap (λ (o : Option ℕ). cons_option o (lefts_of changes)) (All-head (λ (d : PlainBidderChange). d.left ≡ None) c changes h)
    ∙ no_lefts_alone changes (All-tail (λ (d : PlainBidderChange). d.left ≡ None) c changes h)

pub excess_rises : (bidders others : List (List (Atom (List ℕ)))) → IsRising (excess_bidders bidders others)
excess_rises bidders others = IsRising-filter (is_excess bidders others) (range_with_len 0 (length bidders)) (range_rises 0 (length bidders))

module _ (left right : List (List (Atom (List ℕ)))) where
  right_taken : (c : PlainBidderChange) (partner : Option ℕ) → c.right ≡ partner → (before after : List ℕ) → TakesPartner before after partner → (i : ℕ)
      → count_of nat_cmp i (rights_of (c ∷ [])) + count_of nat_cmp i after ≡ count_of nat_cmp i before
  right_taken c None e before after h i = search rules
  right_taken c (Some index) e before after h i = let one : count_of nat_cmp i (rights_of (c ∷ [])) ≡ count_of nat_cmp i (index ∷ []) = search rules in
      let all = taken_counted before after index h i in
      search (rules, sum_by-cons)

  -- one more left bidder, with its partner
  pub one_more_left : (lefts : List ℕ) (index : ℕ) (partner : Option ℕ) (excess : List ℕ) (changes : List PlainBidderChange) (c : PlainBidderChange)
      → AreLefts left right lefts excess changes
      → partner ≡ partner_of right excess (waiting_after right excess excess (map (bidder_at left) lefts)) (bidder_at left index)
      → IsBidderChange left right c → c.left ≡ Some index → c.right ≡ partner → AreLefts left right (lefts ++ index ∷ []) excess (changes ++ c ∷ [])
  one_more_left lefts index partner excess changes c h is k e f = let bidders = map (bidder_at left) lefts in
      let now = waiting_after right excess excess bidders in
      let after = without_partner partner now in
      let more : map (bidder_at left) (lefts ++ index ∷ []) ≡ bidders ++ bidder_at left index ∷ [] = map_push (bidder_at left) lefts index in
      let waiting : waiting_after right excess excess (map (bidder_at left) (lefts ++ index ∷ [])) ≡ after = search (rules, waiting_more) in
      let gone : TakesPartner now after partner = search (rules, taken) in
      record {
        each = All-push (IsBidderChange left right) changes c h.each k;
        named = search (rules, lefts-append);
        each_left = All-push (λ (d : PlainBidderChange). is_some d.left ≡ true) changes c h.each_left (ap is_some e);
        partners = search (rules, map_push, partners_more);
        taken = λ i.
            let a = ap (count_of nat_cmp i) (rights-append changes (c ∷ [])) in
            let b = count-append i (rights_of changes) (rights_of (c ∷ [])) in
            let d = right_taken c partner f now after gone i in
            let w = ap (count_of nat_cmp i) waiting in
            omega arith;
        in_order = subst IsRising (sym waiting) (still_rise now after partner gone h.in_order);
      }

  -- one more right bidder, alone
  pub one_more_alone : (rest : List ℕ) (index : ℕ) (before changes : List PlainBidderChange) (c : PlainBidderChange) → AreRest left right rest before changes
      → IsBidderChange left right c → c.left ≡ None → c.right ≡ Some index → AreRest left right (rest ++ index ∷ []) before (changes ++ c ∷ [])
  one_more_alone rest index before changes c h k e f = record {
    added = h.added ++ c ∷ [];
    behind = search (rules, append_assoc);
    each = All-push (IsBidderChange left right) h.added c h.each k;
    alone = All-push (λ (d : PlainBidderChange). d.left ≡ None) h.added c h.alone e;
    rights = search (rules, rights-append);
  }

  -- all of them
  pub all_changes : (lefts excess rest : List ℕ) (some changes : List PlainBidderChange) → lefts ≡ excess_bidders left right
      → excess ≡ excess_bidders right left → rest ≡ waiting_after right excess excess (map (bidder_at left) lefts) → AreLefts left right lefts excess some
      → AreRest left right rest some changes → AreBidderChanges left right changes
  all_changes lefts excess rest some changes e f g h k = record {
    each = subst (All (IsBidderChange left right)) (sym k.behind) (All-append (IsBidderChange left right) some k.added h.each k.each);
    lefts = search (rules, lefts-append, no_lefts_alone, append-nil);
    rights = λ i.
        let a = ap (λ (xs : List PlainBidderChange). count_of nat_cmp i (rights_of xs)) k.behind in
        let b = ap (count_of nat_cmp i) (rights-append some k.added ∙ ap (λ (xs : List ℕ). rights_of some ++ xs) k.rights)
        ∙ count-append i (rights_of some) rest in
        let c = ap (count_of nat_cmp i) g in
        let d = ap (count_of nat_cmp i) f in
        omega arith;
    partners = search (rules, firsts);
    alone_last = search (rules, firsts, lasts);
    alone_in_order = search (rules, lasts);
  }
    where
      firsts : with_left changes ≡ some
      firsts = ap with_left k.behind ∙ filter-append (λ c. is_some c.left) some k.added
          ∙ ap₂ (λ (xs ys : List PlainBidderChange). xs ++ ys) (all_pass (λ c. is_some c.left) some h.each_left)
          (search (rules, none_pass, All-weaker)) ∙ append-nil some

      lasts : right_alone changes ≡ k.added
      lasts = ap right_alone k.behind ∙ filter-append (λ c. is_none c.left) some k.added ∙ ap₂ (λ (xs ys : List PlainBidderChange). xs ++ ys)
          (none_pass (λ c. is_none c.left) some (search (rules, All-weaker)))
          (search (rules, all_pass, All-weaker))

-- those that still wait are of those that waited
pub rest_within : (P : ℕ → Type 0) (left right : List (List (Atom (List ℕ)))) (lefts excess rest : List ℕ) (changes : List PlainBidderChange)
    → AreLefts left right lefts excess changes → rest ≡ waiting_after right excess excess (map (bidder_at left) lefts) → All P excess → All P rest
rest_within P left right lefts excess rest changes h e all = subst (All P) (sym e) (All-counted P excess _ (λ i. let taken = h.taken i in omega arith) all)
