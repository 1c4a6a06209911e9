-- The list of all bundles over G goods: it holds exactly these, in strictly rising order, so none twice. The idea: the lists of
-- one size that begin with the first good come before those that do not, and both are such lists over one good less.
use Rattle.std.proofs.Common.{rules, ◌≡◌, ℕ, zero, suc, ◌+◌, ◌<◌, ◌≤◌, true, ◌⊎◌, inl, inr, ⊎_elim, List, [], ◌∷◌, ◌++◌, map, length, refl, sym, ap, ◌∙◌, subst}
use Rattle.std.proofs.Common.{arith, Ordering, Less, nat_cmp}
use Rattle.std.specs.List.{All, AllPairs, AllByRecursion, Contains, flat_map, range_with_len}
use Rattle.std.specs.List.Sorted.{IsStrictlySortedBy}
use Rattle.std.specs.Ordering.{ordering_then}
use Rattle.std.specs.Cmp.Lexicographic.{slice_cmp}
use Rattle.std.proofs.lemmas.List.Elements.{All-from_recursion}
use Rattle.std.proofs.lemmas.List.Kept.{AllPairs-cons}
use Rattle.std.proofs.lemmas.Bool.{cases_order}
use Rattle.goods_set.specs.Bundles.{AreBelow, IsRising, IsBundle, has_good, bundles_from, all_bundles}
use Rattle.goods_set.specs.Lemmas.Members.{has_head, has_cases, has_above, AreAbove-from_has}
use Rattle.goods_set.specs.Orders.{bundle_cmp}
use Rattle.goods_set.specs.Lemmas.Orders.{nat_cmp-lt, nat_cmp-refl, same_size, smaller_first}

-- ---- lists of bundles, by recursion

abbrev Listed : List (List ℕ) → List ℕ → Type 0
Listed [] xs = ⊥
Listed (b ∷ bs) xs = (b ≡ xs) ⊎ Listed bs xs

listed_left : (bs cs : List (List ℕ)) (xs : List ℕ) → Listed bs xs → Listed (bs ++ cs) xs
listed_left [] cs xs h = absurd h
listed_left (b ∷ bs) cs xs (inl e) = inl e
listed_left (b ∷ bs) cs xs (inr h) = inr (listed_left bs cs xs h)

listed_right : (bs cs : List (List ℕ)) (xs : List ℕ) → Listed cs xs → Listed (bs ++ cs) xs
listed_right [] cs xs h = h
listed_right (b ∷ bs) cs xs h = inr (listed_right bs cs xs h)

listed_map : (g : ℕ) (bs : List (List ℕ)) (xs : List ℕ) → Listed bs xs → Listed (map (λ ys. g ∷ ys) bs) (g ∷ xs)
listed_map g [] xs h = absurd h
listed_map g (b ∷ bs) xs (inl e) = inl (ap (λ (ys : List ℕ). g ∷ ys) e)
listed_map g (b ∷ bs) xs (inr h) = inr (listed_map g bs xs h)

listed_flat : (f : ℕ → List (List ℕ)) (a n k : ℕ) (xs : List ℕ) → a ≤ k → k < a + n → Listed (f k) xs → Listed (flat_map f (range_with_len a n)) xs
listed_flat f a zero k xs l m h = absurd (omega arith)
listed_flat f a (suc n) k xs l m h = ⊎_elim (search (rules, listed_left))
    (⊎_elim (λ (o : a < k). listed_right (f a) (flat_map f (range_with_len (a + 1) n)) xs (listed_flat f (a + 1) n k xs (omega arith) (omega arith) h))
    (λ (o : k < a). absurd (omega arith))) (cases_order a k)

contains_from_listed : (bs : List (List ℕ)) (xs : List ℕ) → Listed bs xs → Contains bs xs
contains_from_listed [] xs h = absurd h
contains_from_listed (b ∷ bs) xs (inl e) = (0, omega arith, e)
contains_from_listed (b ∷ bs) xs (inr h) = let c : Contains bs xs = contains_from_listed bs xs h in (suc c.0, omega (arith, c.1), c.2)

each_append : (P : List ℕ → Type 0) (bs cs : List (List ℕ)) → AllByRecursion P bs → AllByRecursion P cs → AllByRecursion P (bs ++ cs)
each_append P [] cs h k = k
each_append P (b ∷ bs) cs h k = (h.0, each_append P bs cs h.1 k)

each_flat : (P : List ℕ → Type 0) (f : ℕ → List (List ℕ)) (a n : ℕ) → ((k : ℕ) → a ≤ k → AllByRecursion P (f k))
    → AllByRecursion P (flat_map f (range_with_len a n))
each_flat P f a zero h = tt
each_flat P f a (suc n) h = each_append P (f a) (flat_map f (range_with_len (a + 1) n)) (h a (omega arith)) (each_flat P f (a + 1) n (λ k l. h k (omega arith)))

each_weaker : (P Q : List ℕ → Type 0) → ((xs : List ℕ) → P xs → Q xs) → (bs : List (List ℕ)) → AllByRecursion P bs → AllByRecursion Q bs
each_weaker P Q f [] h = tt
each_weaker P Q f (b ∷ bs) h = (f b h.0, each_weaker P Q f bs h.1)

each_map : (P Q : List ℕ → Type 0) (g : ℕ) → ((xs : List ℕ) → P xs → Q (g ∷ xs)) → (bs : List (List ℕ)) → AllByRecursion P bs
    → AllByRecursion Q (map (λ ys. g ∷ ys) bs)
each_map P Q g f [] h = tt
each_map P Q g f (b ∷ bs) h = (f b h.0, each_map P Q g f bs h.1)

-- ---- what is listed

-- a rising list of `size` goods, from g on and below G
record IsChoice (g G size : ℕ) (xs : List ℕ) : Type 0 where
  rising : IsRising xs
  from : (x : ℕ) → has_good xs x ≡ true → g ≤ x
  below : AreBelow G xs
  many : length xs ≡ size

begun : (g G size : ℕ) (xs : List ℕ) → g < G → IsChoice (g + 1) G size xs → IsChoice g G (suc size) (g ∷ xs)
begun g G size xs l c = search (rules, AreAbove-from_has, has_cases)

later : (g G size : ℕ) (xs : List ℕ) → IsChoice (g + 1) G size xs → IsChoice g G size xs
later g G size xs c = record { rising = c.rising; from = λ x h. let m : g + 1 ≤ x = c.from x h in omega arith; below = c.below; many = c.many }

choices : (n g size G : ℕ) → g + n ≡ G → AllByRecursion (IsChoice g G size) (bundles_from n g size)
choices n g zero G e = (record { rising = tt; from = λ x h. absurd (cc); below = tt; many = refl }, tt)
choices zero g (suc size) G e = tt
choices (suc n) g (suc size) G e = each_append (IsChoice g G (suc size)) (map (λ ys. g ∷ ys) (bundles_from n (g + 1) size)) (bundles_from n (g + 1) (suc size))
    (each_map (IsChoice (g + 1) G size) (IsChoice g G (suc size)) g (λ xs c. begun g G size xs (omega arith) c) (bundles_from n (g + 1) size)
    (choices n (g + 1) size G (omega arith))) (search (rules, each_weaker, later, (choices n (g + 1) (suc size) G (omega arith))))

pub all_bundles_are : (G : ℕ) → All (IsBundle G) (all_bundles G)
all_bundles_are G =
    All-from_recursion (IsBundle G) (all_bundles G) (each_flat (IsBundle G) (λ size. bundles_from G 0 size) 0 (G + 1)
    (λ size l. each_weaker (IsChoice 0 G size) (IsBundle G) (λ xs c. (c.rising, c.below)) (bundles_from G 0 size) (choices G 0 size G (omega arith))))

-- ---- what is not left out

listed : (n g G : ℕ) (xs : List ℕ) → g + n ≡ G → IsRising xs → ((x : ℕ) → has_good xs x ≡ true → g ≤ x) → AreBelow G xs
    → Listed (bundles_from n g (length xs)) xs
listed n g G [] e r f b = inl refl
listed zero g G (x ∷ xs) e r f b = let l : g ≤ x = f x (has_head x xs) in let m : x < G = b.0 in absurd (omega arith)
listed (suc n) g G (x ∷ xs) e r f b =
    let l : g ≤ x = f x (has_head x xs) in
    ⊎_elim (λ (d : g ≡ x). listed_left (map (λ ys. g ∷ ys) (bundles_from n (g + 1) (length xs))) (bundles_from n (g + 1) (suc (length xs))) (x ∷ xs)
    (subst (λ y. Listed (map (λ ys. g ∷ ys) (bundles_from n (g + 1) (length xs))) (y ∷ xs)) d
    (listed_map g (bundles_from n (g + 1) (length xs)) xs (listed n (g + 1) G xs (omega arith) r.1 (λ y h. let m : x < y = has_above x xs y r.0 h in
    omega arith) b.1))))
    (⊎_elim (λ (d : g < x). listed_right (map (λ ys. g ∷ ys) (bundles_from n (g + 1) (length xs))) (bundles_from n (g + 1) (suc (length xs))) (x ∷ xs)
    (listed n (g + 1) G (x ∷ xs) (omega arith) r
    (λ y h. ⊎_elim (λ (q : x ≡ y). omega arith) (λ (q : has_good xs y ≡ true). let m : x < y = has_above x xs y r.0 q in omega arith) (has_cases x xs y h))
    b)) (λ (d : x < g). absurd (omega arith)))
    (cases_order g x)

bundle_fits : (G x : ℕ) (xs : List ℕ) → IsRising (x ∷ xs) → AreBelow G (x ∷ xs) → x + suc (length xs) ≤ G
bundle_fits G x [] r b = let l : x < G = b.0 in omega arith
bundle_fits G x (y ∷ ys) r b = let l : x < y = r.0.0 in let m : y + suc (length ys) ≤ G = bundle_fits G y ys r.1 b.1 in omega arith

-- a bundle has no more goods than there are
pub length_bundle : (G : ℕ) (xs : List ℕ) → IsBundle G xs → length xs ≤ G
length_bundle G [] b = omega arith
length_bundle G (x ∷ xs) b = omega (arith, bundle_fits G x xs b.0 b.1)

pub all_bundles_has : (G : ℕ) (xs : List ℕ) → IsBundle G xs → Contains (all_bundles G) xs
all_bundles_has G xs b =
    let l : length xs ≤ G = length_bundle G xs b in
    contains_from_listed (all_bundles G) xs (listed_flat (λ size. bundles_from G 0 size) 0 (G + 1) (length xs) xs (omega arith) (omega arith)
    (listed G 0 G xs (omega arith) b.0 (λ x h. omega arith) b.1))

-- ---- in which order

sorted_append : (c : List ℕ → List ℕ → Ordering) (bs cs : List (List ℕ)) → IsStrictlySortedBy c bs → IsStrictlySortedBy c cs
    → AllByRecursion (λ b. AllByRecursion (λ d. c b d ≡ Less) cs) bs → IsStrictlySortedBy c (bs ++ cs)
unfolding IsStrictlySortedBy
sorted_append c [] cs s t h = t
sorted_append c (b ∷ bs) cs s t h = (each_append (λ d. c b d ≡ Less) bs cs s.0 h.0, sorted_append c bs cs s.1 t h.1)

first_alike : (g : ℕ) (xs ys : List ℕ) → slice_cmp nat_cmp (g ∷ xs) (g ∷ ys) ≡ slice_cmp nat_cmp xs ys
first_alike g xs ys = ap (λ o. ordering_then o (slice_cmp nat_cmp xs ys)) (nat_cmp-refl g)

sorted_map : (g : ℕ) (bs : List (List ℕ)) → IsStrictlySortedBy (slice_cmp nat_cmp) bs → IsStrictlySortedBy (slice_cmp nat_cmp) (map (λ ys. g ∷ ys) bs)
unfolding IsStrictlySortedBy
sorted_map g [] s = tt
sorted_map g (b ∷ bs) s = (
  each_map (λ xs. slice_cmp nat_cmp b xs ≡ Less) (λ xs. slice_cmp nat_cmp (g ∷ b) xs ≡ Less) g (λ xs e. first_alike g b xs ∙ e) bs s.0,
  sorted_map g bs s.1,
)

first_less : (g G size : ℕ) (xs ys : List ℕ) → IsChoice (g + 1) G (suc size) ys → slice_cmp nat_cmp (g ∷ xs) ys ≡ Less
first_less g G size xs [] c = absurd (omega (arith, c.many))
first_less g G size xs (y ∷ ys) c = let l : g + 1 ≤ y = c.from y (has_head y ys) in
    ap (λ o. ordering_then o (slice_cmp nat_cmp xs ys)) (nat_cmp-lt g y (omega arith))

crossing : (g G size : ℕ) (bs cs : List (List ℕ)) → AllByRecursion (IsChoice (g + 1) G (suc size)) cs
    → AllByRecursion (λ b. AllByRecursion (λ d. slice_cmp nat_cmp b d ≡ Less) cs) (map (λ ys. g ∷ ys) bs)
crossing g G size [] cs h = tt
crossing g G size (b ∷ bs) cs h = search (rules, each_weaker, first_less, (crossing g G size bs cs h))

sorted_choices : (n g size : ℕ) → IsStrictlySortedBy (slice_cmp nat_cmp) (bundles_from n g size)
unfolding IsStrictlySortedBy
sorted_choices n g zero = (tt, tt)
sorted_choices zero g (suc size) = tt
sorted_choices (suc n) g (suc size) =
    sorted_append (slice_cmp nat_cmp) (map (λ ys. g ∷ ys) (bundles_from n (g + 1) size)) (bundles_from n (g + 1) (suc size))
    (sorted_map g (bundles_from n (g + 1) size) (sorted_choices n (g + 1) size))
    (sorted_choices n (g + 1) (suc size))
    (crossing g (g + 1 + n) size (bundles_from n (g + 1) size) (bundles_from n (g + 1) (suc size)) (choices n (g + 1) (suc size) (g + 1 + n) refl))

sorted_of_size : (size : ℕ) (bs : List (List ℕ)) → AllByRecursion (λ xs. length xs ≡ size) bs → IsStrictlySortedBy (slice_cmp nat_cmp) bs
    → IsStrictlySortedBy bundle_cmp bs
unfolding IsStrictlySortedBy
sorted_of_size size [] h s = tt
sorted_of_size size (b ∷ bs) h s = (one bs h.1 s.0, sorted_of_size size bs h.1 s.1)
  where
    one : (cs : List (List ℕ)) → AllByRecursion (λ xs. length xs ≡ size) cs → AllByRecursion (λ d. slice_cmp nat_cmp b d ≡ Less) cs
        → AllByRecursion (λ d. bundle_cmp b d ≡ Less) cs
    one [] k t = tt
    one (d ∷ ds) k t = (same_size b d (h.0 ∙ sym k.0) ∙ t.0, one ds k.1 t.1)

larger_later : (size : ℕ) (bs cs : List (List ℕ)) → AllByRecursion (λ xs. length xs ≡ size) bs → AllByRecursion (λ xs. size < length xs) cs
    → AllByRecursion (λ b. AllByRecursion (λ d. bundle_cmp b d ≡ Less) cs) bs
larger_later size [] cs h k = tt
larger_later size (b ∷ bs) cs h k = search (rules, each_weaker, smaller_first, (larger_later size bs cs h.1 k))

sizes : (G size : ℕ) → AllByRecursion (λ xs. length xs ≡ size) (bundles_from G 0 size)
sizes G size = each_weaker (IsChoice 0 G size) (λ xs. length xs ≡ size) (λ xs c. c.many) (bundles_from G 0 size) (choices G 0 size G (omega arith))

sorted_sizes : (G a n : ℕ) → IsStrictlySortedBy bundle_cmp (flat_map (λ size. bundles_from G 0 size) (range_with_len a n))
unfolding IsStrictlySortedBy
sorted_sizes G a zero = tt
sorted_sizes G a (suc n) =
    sorted_append bundle_cmp (bundles_from G 0 a) (flat_map (λ size. bundles_from G 0 size) (range_with_len (a + 1) n))
    (sorted_of_size a (bundles_from G 0 a) (sizes G a) (sorted_choices G 0 a))
    (sorted_sizes G (a + 1) n)
    (larger_later a (bundles_from G 0 a) (flat_map (λ size. bundles_from G 0 size) (range_with_len (a + 1) n)) (sizes G a)
    (each_flat (λ xs. a < length xs) (λ size. bundles_from G 0 size) (a + 1) n
    (λ k l. each_weaker (λ xs. length xs ≡ k) (λ xs. a < length xs) (λ xs e. omega arith) (bundles_from G 0 k) (sizes G k))))

pub all_bundles_sorted : (G : ℕ) → IsStrictlySortedBy bundle_cmp (all_bundles G)
all_bundles_sorted G = sorted_sizes G 0 (G + 1)

pairs_from_sorted : (bs : List (List ℕ)) → IsStrictlySortedBy bundle_cmp bs → AllPairs (λ xs ys. bundle_cmp xs ys ≡ Less) bs
unfolding IsStrictlySortedBy
pairs_from_sorted [] s = λ i j d l m. absurd (omega arith)
pairs_from_sorted (b ∷ bs) s = search (rules, AllPairs-cons, All-from_recursion, (pairs_from_sorted bs s.1))

-- each bundle of the list comes before all later ones, so that none is twice
pub all_bundles_rise : (G : ℕ) → AllPairs (λ xs ys. bundle_cmp xs ys ≡ Less) (all_bundles G)
all_bundles_rise G = pairs_from_sorted (all_bundles G) (all_bundles_sorted G)
