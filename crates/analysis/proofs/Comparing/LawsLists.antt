-- Lists: what is there behind a partial map or a test, and how often; numbers that rise are in order.
use Rattle.analysis.proofs.Common.{rules, ◌≡◌, ℕ, zero, suc, ◌<◌, Bool, true, false, cond, ⊎_elim, List, [], ◌∷◌, map, refl, sym, ap, ◌∙◌, arith, Option, Some}
use Rattle.analysis.proofs.Common.{None, Ordering, nat_cmp, All, Contains, IsTotalOrder, nat_cmp-IsAntisymmetric, filter, filter_map, cons_option, sum_by}
use Rattle.analysis.proofs.Common.{is_eq, tied_itself, nat_cmp_total, All-head, All-tail, sum_by-cons, AreAbove, count_of, Contains-cons_cases, Contains-nil}
use Rattle.analysis.proofs.Common.{Contains-head, Contains-tail, sum_by-sort_by, sort_by-same, insert_by, nat_cmp-lt, IsRising, sort_by}

pub Contains-filter_map : {X Y : Type 0} (h : X → Option Y) (xs : List X) (x : X) (y : Y) → Contains xs x → h x ≡ Some y → Contains (filter_map h xs) y
Contains-filter_map h [] x y c e = absurd (Contains-nil x c)
Contains-filter_map {X} {Y} h (z ∷ zs) x y c e = ⊎_elim
    (search (rules, Contains-head))
    (λ (d : Contains zs x). later (h z) (Contains-filter_map h zs x y d e))
    (Contains-cons_cases z zs x c)
  where
    later : (o : Option Y) → Contains (filter_map h zs) y → Contains (cons_option o (filter_map h zs)) y
    later None d = d
    later (Some w) d = Contains-tail w (filter_map h zs) y d

pub sum_by-map : {X Y : Type 0} (f : Y → ℕ) (g : X → Y) (xs : List X) → sum_by f (map g xs) ≡ sum_by (λ x. f (g x)) xs
sum_by-map f g [] = refl
sum_by-map f g (x ∷ xs) = omega (arith, sum_by-cons f (g x) (map g xs), sum_by-cons (λ z. f (g z)) x xs, sum_by-map f g xs)

-- ---- which pass a test

pub all_pass : {X : Type 0} (p : X → Bool) (xs : List X) → All (λ x. p x ≡ true) xs → filter p xs ≡ xs
all_pass p [] h = refl
all_pass {X} p (x ∷ xs) h =
    ap (λ b. cond {A = List X} b (x ∷ filter p xs) (filter p xs)) (All-head (λ y. p y ≡ true) x xs h)
    ∙ ap (λ (ys : List X). x ∷ ys) (all_pass p xs (All-tail (λ y. p y ≡ true) x xs h))

pub none_pass : {X : Type 0} (p : X → Bool) (xs : List X) → All (λ x. p x ≡ false) xs → filter p xs ≡ []
none_pass p [] h = refl
none_pass {X} p (x ∷ xs) h =
    ap (λ b. cond {A = List X} b (x ∷ filter p xs) (filter p xs)) (All-head (λ y. p y ≡ false) x xs h) ∙ none_pass p xs (All-tail (λ y. p y ≡ false) x xs h)

-- ---- numbers that rise

pub above_all : (x : ℕ) (xs : List ℕ) → AreAbove x xs → All (λ y. x < y) xs
above_all x [] a k d l = absurd (omega arith)
above_all x (y ∷ ys) a zero d l = a.0
above_all x (y ∷ ys) a (suc k) d l = above_all x ys a.1 k d (omega arith)

first_stays : (x : ℕ) (xs : List ℕ) → AreAbove x xs → insert_by nat_cmp x xs ≡ x ∷ xs
first_stays x [] h = refl
first_stays x (y ∷ ys) h = search (rules, nat_cmp-lt)

pub sort_rising : (xs : List ℕ) → IsRising xs → sort_by nat_cmp xs ≡ xs
sort_rising [] h = refl
sort_rising (x ∷ xs) h = ap (insert_by nat_cmp x) (sort_rising xs h.1) ∙ first_stays x xs h.0

-- ---- how often

-- an element that is there is counted
pub there_is_counted : {X : Type 0} (cmp : X → X → Ordering) → IsTotalOrder cmp → (x : X) (xs : List X) → Contains xs x → 0 < count_of cmp x xs
there_is_counted cmp total x [] c = absurd (Contains-nil x c)
there_is_counted cmp total x (y ∷ ys) c = let front = sum_by-cons (λ z. cond {A = ℕ} (is_eq (cmp x z)) 1 0) y ys in
    ⊎_elim
    (λ (d : y ≡ x).
    search (rules, tied_itself))
    (λ (d : Contains ys x). let some = there_is_counted cmp total x ys d in omega arith)
    (Contains-cons_cases y ys x c)

-- numbers that are there equally often have equal sums
pub sum_of_same_counts : (f : ℕ → ℕ) (xs ys : List ℕ) → ((n : ℕ) → count_of nat_cmp n xs ≡ count_of nat_cmp n ys) → sum_by f xs ≡ sum_by f ys
sum_of_same_counts f xs ys e =
    sym (sum_by-sort_by nat_cmp f xs) ∙ ap (sum_by f) (sort_by-same nat_cmp nat_cmp_total nat_cmp-IsAntisymmetric xs ys e) ∙ sum_by-sort_by nat_cmp f ys
