-- Clashes, from the last bid to the first. Two bids cannot both win exactly if they share a good, where the dummy good is one behind the
-- real goods. So the first later bid that clashes with a bid is the least of the first later bids that have one of its goods.
use Rattle.analysis.proofs.Common.{find_none, [], common_steps, rules, ◌≡◌, ℕ, ◌+◌, ◌<◌, ◌≤◌, Bool, true, false, not, cond, ◌||◌, List, ◌∷◌, length, ap}
use Rattle.analysis.proofs.Common.{drop, set, get_or, refl, sym, ◌∙◌, subst, arith, Option, None, Some, get_or-set_same, get_or-set_other, zero, suc, All, find}
use Rattle.analysis.proofs.Common.{IfSome, false_from_ne_true, IsBid}
use Rattle.analysis.proofs.Common.{drop_more, length-set, All-from_recursion, AreAbove, AreBelow, IsBundle, IsRising, has_good, has_below, IsPlainFile, bid_at}
use Rattle.analysis.proofs.Common.{PlainBid, PlainFile, goods_of, All-from_Contains, list_any_fails, list_any_found, first_clash, first_rival, pair_or, held_by}
use Rattle.analysis.proofs.Common.{can_both_win, least_holder, list_any, find_same_on, AreHolders, has, holder_at, lesser, contains_from_has, has_from_contains}
use Rattle.analysis.proofs.Explaining.KeptBids.{bid_here}
use Rattle.analysis.proofs.Allocating.ByGood.{goods_below}
use Rattle.analysis.proofs.Allocating.LpRows.{both_win, share_none}

-- ---- the lesser of two numbers

lesser_none : (o : Option ℕ) → lesser o None ≡ o
lesser_none o = search rules

lesser_assoc : (o p q : Option ℕ) → lesser (lesser o p) q ≡ lesser o (lesser p q)
lesser_assoc o p q = search rules

lesser_left : (i : ℕ) (o : Option ℕ) → IfSome o (λ j. i < j) → lesser (Some i) o ≡ Some i
lesser_left i o l = grind (arith, common_steps)

lesser_right : (o : Option ℕ) (j : ℕ) → IfSome o (λ i. j < i) → lesser o (Some j) ≡ Some j
lesser_right o j l = grind (arith, common_steps)

-- ---- the first of rising numbers that passes a test

found_above : (p : ℕ → Bool) (x : ℕ) (xs : List ℕ) → AreAbove x xs → IfSome (find p xs) (λ y. x < y)
found_above p x [] a = tt
found_above p x (y ∷ ys) a = search (rules, (found_above p x ys))

find_either : (p q : ℕ → Bool) (xs : List ℕ) → IsRising xs → lesser (find p xs) (find q xs) ≡ find (λ x. p x || q x) xs
find_either p q [] r = refl
find_either p q (x ∷ xs) r = grind (arith, common_steps, (find_either p q xs), found_above, lesser_left, lesser_right)

-- ---- bids that share a good

share_test : (G D : ℕ) (a b : PlainBid) → IsBid G D a → IsBid G D b → list_any (λ good. has_good (goods_of G b) good) (goods_of G a) ≡ not (can_both_win a b)
share_test G D a b is_a is_b =
    let none : can_both_win a b ≡ true → list_any (has_good (goods_of G b)) (goods_of G a) ≡ false = λ win.
    false_from_ne_true _ (grind (arith, common_steps, list_any_found, share_none, has_from_contains)) in
    grind (arith, common_steps, none, (both_win G D a b is_a is_b), list_any_fails, contains_from_has)

module _ (f : PlainFile) (is : IsPlainFile f) where
  rival_is : (i : ℕ) (later : List ℕ) → i < length f.bids → AreBelow (length f.bids) later
      → find (λ j. list_any (λ good. has f good j) (goods_of f.goods (bid_at f i))) later ≡ first_rival f i later
  rival_is i later l below = let shares : ℕ → Bool = λ j. list_any (λ good. has f good j) (goods_of f.goods (bid_at f i)) in
      let clashes : ℕ → Bool = λ j. not (can_both_win (bid_at f i) (bid_at f j)) in
      find_same_on shares clashes later (All-from_Contains (λ j. shares j ≡ clashes j) later (λ j c.
      share_test f.goods f.dummy (bid_at f i) (bid_at f j) (bid_here f is i l) (search (rules, bid_here, has_below, has_from_contains))))

  least_is : (later : List ℕ) (holders : List (Option ℕ)) → IsRising later → AreHolders f later holders → (goods : List ℕ)
      → AreBelow (f.goods + f.dummy) goods → (start : Option ℕ)
      → least_holder holders start goods ≡ lesser start (find (λ j. list_any (λ good. has f good j) goods) later)
  least_is later holders rises h [] below start = search (rules, find_none, lesser_none)
  least_is later holders rises h (good ∷ goods) below start = search (rules, (least_is later holders rises h goods), lesser_assoc, find_either)

-- ---- a bid at its goods

length-held_by : (n : ℕ) (holders : List (Option ℕ)) (goods : List ℕ) → length (held_by n holders goods) ≡ length holders
length-held_by n holders [] = refl
length-held_by n holders (good ∷ goods) = length-held_by n (set holders good (Some n)) goods ∙ length-set holders good (Some n)

at_held : (n good : ℕ) (goods : List ℕ) (holders : List (Option ℕ)) → AreBelow (length holders) goods
    → holder_at (held_by n holders goods) good ≡ cond (has_good goods good) (Some n) (holder_at holders good)
at_held n good [] holders below = refl
at_held n good (x ∷ xs) holders below = grind (arith, common_steps, (at_held n good xs), length-set, get_or-set_same, get_or-set_other)

one_more : (f : PlainFile) (n : ℕ) (b : PlainBid) (later : List ℕ) (holders : List (Option ℕ)) → IsBid f.goods f.dummy b → b ≡ bid_at f n
    → AreHolders f later holders → AreHolders f (n ∷ later) (held_by n holders (goods_of f.goods b))
one_more f n b later holders is here h = record {
  long = length-held_by n holders (goods_of f.goods b) ∙ h.long;
  each = λ good l. let held = at_held n good (goods_of f.goods b) holders (search (rules, h.long, goods_below)) in search (rules, held, h.each, here);
}

-- ---- the walk

-- what is known of the winners from this index on
pub record IsWalked (f : PlainFile) (winners : List ℕ) (index : ℕ) (holders : List (Option ℕ)) (clash : Option (ℕ × ℕ)) : Type 0 where
  pub held : AreHolders f (drop index winners) holders
  pub is_clash : clash ≡ first_clash f (drop index winners)

IsBundle-drop : (n k : ℕ) (xs : List ℕ) → IsBundle n xs → IsBundle n (drop k xs)
IsBundle-drop n zero xs b = b
IsBundle-drop n (suc k) [] b = (tt, tt)
IsBundle-drop n (suc k) (x ∷ xs) b = IsBundle-drop n k xs (b.0.1, b.1.1)

pub number_there : (f : PlainFile) (winners : List ℕ) → IsBundle (length f.bids) winners → (index : ℕ) → index < length winners
    → get_or winners index 0 < length f.bids
number_there f winners numbers index l = All-from_recursion (λ i. i < length f.bids) winners numbers.1 index 0 l

-- one winner more, whose bid is this one
module _ (f : PlainFile) (is : IsPlainFile f) (winners : List ℕ) (numbers : IsBundle (length f.bids) winners) (index next n : ℕ)
    (before : index + 1 ≡ next) (within : next ≤ length winners) (at : n ≡ get_or winners index 0) (b : PlainBid) (here : b ≡ bid_at f n)
    (holders : List (Option ℕ)) (clash : Option (ℕ × ℕ)) (walked : IsWalked f winners next holders clash) where
  w : IsWalked f winners (index + 1) holders clash
  w = subst (λ (m : ℕ). IsWalked f winners m holders clash) (sym before) walked

  whole : drop index winners ≡ n ∷ drop (index + 1) winners
  whole = drop_more winners index 0 (omega arith) ∙ ap (λ (x : ℕ). x ∷ drop (index + 1) winners) (sym at)

  rest : IsBundle (length f.bids) (n ∷ drop (index + 1) winners)
  rest = subst (IsBundle (length f.bids)) whole (IsBundle-drop (length f.bids) index winners numbers)

  is_bid : IsBid f.goods f.dummy b
  is_bid = subst (IsBid f.goods f.dummy) (sym here) (bid_here f is n rest.1.0)

  goods_there : AreBelow (f.goods + f.dummy) (goods_of f.goods b)
  goods_there = goods_below f.goods f.dummy b is_bid

  pub goods_held : All (λ good. good < length holders) (goods_of f.goods b)
  goods_held = subst (λ m. All (λ good. good < m) (goods_of f.goods b)) (sym w.held.long) (search (rules, All-from_recursion, goods_there))

  rival : least_holder holders None (goods_of f.goods b) ≡ first_rival f n (drop (index + 1) winners)
  rival = let least = least_is f is (drop (index + 1) winners) holders rest.0.1 w.held (goods_of f.goods b) goods_there None in
      search (rules, least, here, (rival_is f is n (drop (index + 1) winners) rest.1.0 rest.1.1))

  pub one_walked : (changed : List (Option ℕ)) (after : Option (ℕ × ℕ)) → changed ≡ held_by n holders (goods_of f.goods b)
      → after ≡ pair_or n (least_holder holders None (goods_of f.goods b)) clash → IsWalked f winners index changed after
  one_walked changed after c e = search (rules, whole, c, (one_more f n b (drop (index + 1) winners) holders is_bid here w.held), rival, w)
