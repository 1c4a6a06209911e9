-- What a pruning keeps of bids in order of bundles: a bid is kept if the kept bids below its bundle do not reach
-- its price. The idea: a later bid is below no earlier one, so what was decided stays right, and a pruning that is broken off
-- could be completed without a change below the bundles that it saw.
use Rattle.prune.proofs.Common.{rules, ◌≡◌, ℕ, ◌<◌, ◌≤◌, Bool, false, not, ⊎_elim, List, [], ◌∷◌, ◌++◌, refl, sym, ap, ◌∙◌, subst, le_trans, append_assoc, All}
use Rattle.prune.proofs.Common.{Contains, cases_lt, and_left, and_right, false_from_ne_true, not_from_true, All-nil, All-cons, All-head, All-tail}
use Rattle.prune.proofs.Common.{All-push, All-contains, All-weaker, Contains-append_left, Contains-push, Contains-append_right, all_pairs_push, IsRising}
use Rattle.prune.proofs.Common.{is_inside, inside_refl, Atom, AllPairs-nil, AllPairs-head, AllPairs-tail, is_below, atoms_below, atoms_below-push}
use Rattle.prune.proofs.Common.{IsValue, All-from_Contains, Contains-head, IsBefore, IsInOrder, before_not_inside}

abbrev pub HasRisingBundle : Atom (List ℕ) → Type 0
HasRisingBundle a = IsRising a.bundle

-- ---- lists

append_nil : (zs : List (Atom (List ℕ))) → zs ++ [] ≡ zs
append_nil [] = refl
append_nil (z ∷ zs) = ap (λ (ys : List (Atom (List ℕ))). z ∷ ys) (append_nil zs)

pub rising_prefix : (prefix back : List (Atom (List ℕ))) → All HasRisingBundle (prefix ++ back) → All HasRisingBundle prefix
rising_prefix prefix back h =
    All-from_Contains HasRisingBundle prefix (λ a c. All-contains HasRisingBundle (prefix ++ back) a h (Contains-append_left prefix back a c))

-- in a list in order the atoms before one are less, and those behind it are not
pub before_next : (prefix : List (Atom (List ℕ))) (x : Atom (List ℕ)) (back : List (Atom (List ℕ))) → IsInOrder (prefix ++ x ∷ back)
    → All (λ a. IsBefore a x) prefix
before_next [] x back order = All-nil (λ a. IsBefore a x)
before_next (y ∷ prefix) x back order =
    All-cons (λ a. IsBefore a x) y prefix
    (All-contains (IsBefore y) (prefix ++ x ∷ back) x (AllPairs-head IsBefore y (prefix ++ x ∷ back) order)
    (Contains-append_right prefix (x ∷ back) x (Contains-head x back)))
    (before_next prefix x back (AllPairs-tail IsBefore y (prefix ++ x ∷ back) order))

pub behind_next : (prefix : List (Atom (List ℕ))) (x : Atom (List ℕ)) (back : List (Atom (List ℕ))) → IsInOrder (prefix ++ x ∷ back) → All (IsBefore x) back
behind_next [] x back order = AllPairs-head IsBefore x back order
behind_next (y ∷ prefix) x back order = behind_next prefix x back (AllPairs-tail IsBefore y (prefix ++ x ∷ back) order)

-- ---- what is not below

-- a bundle is not below itself, nor below an earlier one
pub not_below_itself : (xs : List ℕ) → is_below xs xs ≡ false
not_below_itself xs = and_right (is_inside xs xs) (not (is_inside xs xs)) (not_from_true (is_inside xs xs) (inside_refl xs))

pub later_not_below : (earlier later : Atom (List ℕ)) → HasRisingBundle earlier → HasRisingBundle later → IsBefore earlier later
    → is_below later.bundle earlier.bundle ≡ false
later_not_below earlier later r s l = search (rules, and_left, false_from_ne_true, before_not_inside)

-- earlier atoms are inside the bundle if they are below it
pub inside_below : (kept : List (Atom (List ℕ))) (x : Atom (List ℕ)) → All HasRisingBundle kept → HasRisingBundle x → All (λ a. IsBefore a x) kept
    → All (λ a. is_inside a.bundle x.bundle ≡ is_below a.bundle x.bundle) kept
inside_below kept x rising r before = search (rules, All-from_Contains, false_from_ne_true, before_not_inside, All-contains)

-- ---- the pruning by a value

module _ {X : Type 0} {On : ℕ → Atom (List ℕ) → Type 0} {value : List (Atom (List ℕ)) → List ℕ → ℕ} {Splits : List ℕ → X → Type 0}
    {worth : (List ℕ → ℕ) → List ℕ → X → ℕ} {passes : ℕ → List (Atom (List ℕ)) → List ℕ → Bool} (V : IsValue On value Splits worth passes) where
  -- what is kept of the bids that are done
  pub record IsKept (done kept : List (Atom (List ℕ))) : Type 0 where
    pub in_order : IsInOrder kept
    pub among : All (Contains done) kept
    pub short : All (λ b. value (atoms_below kept b.bundle) b.bundle < b.price) kept
    pub dominated : All (λ a. a.price ≤ value kept a.bundle) done

  pub IsKept-none : IsKept [] []
  IsKept-none = record {
    in_order = AllPairs-nil IsBefore;
    among = All-nil (Contains []);
    short = All-nil (λ b. value (atoms_below [] b.bundle) b.bundle < b.price);
    dominated = All-nil (λ a. a.price ≤ value [] a.bundle);
  }

  -- the price is reached, and the bid is dropped
  pub IsKept-reached : (done kept : List (Atom (List ℕ))) (x : Atom (List ℕ)) → IsKept done kept → x.price ≤ value (atoms_below kept x.bundle) x.bundle
      → IsKept (done ++ x ∷ []) kept
  IsKept-reached done kept x k l = record {
    in_order = k.in_order;
    among = All-weaker (Contains done) (Contains (done ++ x ∷ [])) (λ a c. Contains-append_left done (x ∷ []) a c) kept k.among;
    short = k.short;
    dominated = All-push (λ a. a.price ≤ value kept a.bundle) done x k.dominated (le_trans l (V.fewer (λ a. is_below a.bundle x.bundle) kept x.bundle));
  }

  -- it is not, and the bid stays
  pub IsKept-missed : (done kept : List (Atom (List ℕ))) (x : Atom (List ℕ)) → All HasRisingBundle done → HasRisingBundle x → All (λ a. IsBefore a x) done
      → IsKept done kept → value (atoms_below kept x.bundle) x.bundle < x.price → IsKept (done ++ x ∷ []) (kept ++ x ∷ [])
  IsKept-missed done kept x rising r before k l = record {
    in_order = all_pairs_push IsBefore kept x k.in_order (λ i d m. All-contains (λ a. IsBefore a x) done _ before (k.among i d m));
    among = All-push (Contains (done ++ x ∷ [])) kept x
        (All-weaker (Contains done) (Contains (done ++ x ∷ [])) (λ a c. Contains-append_left done (x ∷ []) a c) kept k.among) (Contains-push done x);
    short = All-push (λ b. value (atoms_below (kept ++ x ∷ []) b.bundle) b.bundle < b.price) kept x
        (All-from_Contains (λ b. value (atoms_below (kept ++ x ∷ []) b.bundle) b.bundle < b.price) kept (λ b c.
        let there = All-contains (Contains done) kept b k.among c in
        let same = atoms_below-push kept x b.bundle (later_not_below b x (All-contains HasRisingBundle done b rising there) r
        (All-contains (λ a. IsBefore a x) done b before there)) in
        subst (λ (zs : List (Atom (List ℕ))). value zs b.bundle < b.price) (sym same)
        (All-contains (λ b. value (atoms_below kept b.bundle) b.bundle < b.price) kept b k.short c)))
        (subst (λ (zs : List (Atom (List ℕ))). value zs x.bundle < x.price) (sym (atoms_below-push kept x x.bundle (not_below_itself x.bundle))) l);
    dominated = All-push (λ a. a.price ≤ value (kept ++ x ∷ []) a.bundle) done x
        (All-weaker (λ a. a.price ≤ value kept a.bundle) (λ a. a.price ≤ value (kept ++ x ∷ []) a.bundle) (λ a h. le_trans h (V.more kept x a.bundle)) done
        k.dominated)
        (V.member (kept ++ x ∷ []) x (Contains-push kept x) x.bundle (inside_refl x.bundle));
  }

  -- what a completed pruning keeps: below a bundle that no later bid is below, what was kept so far
  pub record IsCompleted (done rest so_far final : List (Atom (List ℕ))) : Type 0 where
    pub kept : IsKept (done ++ rest) final
    pub below : (bundle : List ℕ) → All (λ a. is_below a.bundle bundle ≡ false) rest → atoms_below final bundle ≡ atoms_below so_far bundle

  pub completion : (rest done kept : List (Atom (List ℕ))) → IsInOrder (done ++ rest) → All HasRisingBundle (done ++ rest) → IsKept done kept
      → (final : List (Atom (List ℕ))) × IsCompleted done rest kept final
  completion [] done kept order rising k =
      (kept, record { kept = subst (λ (zs : List (Atom (List ℕ))). IsKept zs kept) (sym (append_nil done)) k; below = λ bundle h. refl })
  completion (x ∷ rest) done kept order rising k =
      let e : (done ++ x ∷ []) ++ rest ≡ done ++ x ∷ rest = append_assoc done (x ∷ []) rest in
      let order' = subst (λ (zs : List (Atom (List ℕ))). IsInOrder zs) (sym e) order in
      let rising' = subst (λ (zs : List (Atom (List ℕ))). All HasRisingBundle zs) (sym e) rising in
      ⊎_elim
      (λ (l : value (atoms_below kept x.bundle) x.bundle < x.price).
      let first : All HasRisingBundle done = rising_prefix done (x ∷ rest) rising in
      let r : HasRisingBundle x = All-contains HasRisingBundle (done ++ x ∷ rest) x rising (Contains-append_right done (x ∷ rest) x (Contains-head x rest)) in
      let before : All (λ a. IsBefore a x) done = before_next done x rest order in
      let c = completion rest (done ++ x ∷ []) (kept ++ x ∷ []) order' rising' (IsKept-missed done kept x first r before k l) in (
        c.0,
        record {
          kept = subst (λ (zs : List (Atom (List ℕ))). IsKept zs c.0) e c.1.kept;
          below = λ bundle h. c.1.below bundle (All-tail (λ a. is_below a.bundle bundle ≡ false) x rest h)
              ∙ atoms_below-push kept x bundle (All-head (λ a. is_below a.bundle bundle ≡ false) x rest h);
        },
      ))
      (λ (l : x.price ≤ value (atoms_below kept x.bundle) x.bundle).
      let c = completion rest (done ++ x ∷ []) kept order' rising' (IsKept-reached done kept x k l) in (
        c.0,
        record {
          kept = subst (λ (zs : List (Atom (List ℕ))). IsKept zs c.0) e c.1.kept;
          below = λ bundle h. c.1.below bundle (All-tail (λ a. is_below a.bundle bundle ≡ false) x rest h);
        },
      ))
      (cases_lt (value (atoms_below kept x.bundle) x.bundle) x.price)
