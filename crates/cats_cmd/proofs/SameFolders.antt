-- If the status is 0, the files at each path below two folders are the same auction.
use Rattle.cats_cmd.proofs.Common.{◌≡◌, ◌==◌, ◌⊎◌, ℕ, List, [], ◌∷◌, max, fold, map, refl, sym, subst, ◌∙◌, arith, Bool, true, false, cond, Result, Ok, Err}
use Rattle.cats_cmd.proofs.Common.{Answer, RunFault}
use Rattle.cats_cmd.proofs.Common.{inl, inr, All, AllByRecursion, All-from_recursion, Option, PricedGives, PricedRefuses, PlainRequest, Unopened}
use Rattle.cats_cmd.proofs.Common.{Difference, NoDifference, Prints, outcome_of_difference, status_if_lost}
use Rattle.cats_cmd.proofs.QuietFolders.{fold_least, no_fault}
use Rattle.cats_cmd.proofs.Statuses.{fault_status_above}
use Rattle.cats_cmd.specs.ComparedFolders.{AreSameAt, ArePathsBelow, ComparedPath, ComparesFiles, ComparesOpened, FoundFolders, IsIn, IsSameBelow, IsSameRow}
use Rattle.cats_cmd.specs.ComparedFolders.{JudgesRow, JudgesAt, status_of_rows, status_of_verdict, verdict_of}
use Rattle.cats_cmd.specs.Stores.{path_in}
use Rattle.cats_cmd.specs.declared.compare_folders.PathVerdict.{PathVerdict}
use Rattle.cats_cmd.specs.declared.compare_folders.PathVerdict.TheVariants.{Same, Different, Left, Right, Unjudged}
use Rattle.cats_cmd.specs.declared.priced_input.RoundedCount.{RoundedCount}
use Rattle.canon.specs.Difference.{InGoods, InOr, InXor}
use Rattle.commands.specs.Pairs.{Compares}
use Rattle.std.proofs.lemmas.Bool.{eqb-true}
use Rattle.std.specs.List.{Contains}
use Rattle.valuation.specs.Lemmas.Lists.{Contains-unmap}

-- ---- statuses

row_same : (lost : Bool) (verdict : PathVerdict) → status_of_verdict lost verdict ≡ 0 → (verdict ≡ Same) × (lost ≡ false)
row_same false Same is = (refl, refl)
row_same true Same is = absurd (cc)
row_same lost (Unjudged fault) is = no_fault lost (Unjudged fault) fault refl (omega (arith, is))
row_same true verdict is = absurd (cc)
row_same false verdict is = absurd (cc)

same_from : (rows : List ComparedPath) (least : ℕ) → fold (λ g r. max g (status_of_verdict r.lost r.verdict)) least rows ≡ 0
    → AllByRecursion IsSameRow rows
same_from [] least is = tt
same_from (row ∷ rows) least is =
    let more = fold_least rows (max least (status_of_verdict row.lost row.verdict)) in
    let one : status_of_verdict row.lost row.verdict ≡ 0 = grind (arith, more, is) in
    (row_same row.lost row.verdict one, same_from rows (max least (status_of_verdict row.lost row.verdict)) is)

pub all_same : (rows : List ComparedPath) → status_of_rows rows ≡ 0 → AllByRecursion IsSameRow rows
all_same rows is = same_from rows 0 is

pub none_greater : (rows : List ComparedPath) → AllByRecursion IsSameRow rows → status_of_rows rows ≡ 0
none_greater [] same = refl
none_greater (row ∷ rows) same = rw (same.0.0, same.0.1) (none_greater rows same.1)

-- ---- auctions

zero_if : (n : ℕ) (b : Bool) → (n == 0) ≡ b → cond b Same Different ≡ Same → n ≡ 0
zero_if n true is same = eqb-true n 0 is
zero_if n false is same = absurd (cc)

zero_from : (n : ℕ) → cond (n == 0) Same Different ≡ Same → n ≡ 0
zero_from n same = zero_if n (n == 0) refl same

no_difference : (difference : Difference) (status : ℕ) (text : List ℕ) → outcome_of_difference difference ≡ Prints status text → status ≡ 0
    → difference ≡ NoDifference
no_difference NoDifference status text made is = refl
no_difference (InGoods left right) status text made is = absurd (cc)
no_difference (InOr bundle left right) status text made is = absurd (cc)
no_difference (InXor bidder left right) status text made is = absurd (cc)

holds_of : {X : Type 0} (P : X → Type 0) (xs : List X) (x : X) → AllByRecursion P xs → Contains xs x → P x
holds_of P xs x all there = subst P there.2 (All-from_recursion P xs all there.0 x there.1)

module _ {F : Type 0} (may_open : List ℕ → F → Type 0) (may_refuse : List ℕ → Unopened → Type 0) (remaining : F → Option (List ℕ))
    (request : PlainRequest) where
  same_by : (first second : List ℕ) (verdict : PathVerdict) (one other : RoundedCount)
      (c : ComparesOpened may_open may_refuse remaining request first second verdict one other) (answer : Result Answer RunFault)
      → Compares (PricedGives remaining) (PricedRefuses remaining) (PricedGives remaining) (PricedRefuses remaining) request.options c.left c.left_after
      c.right c.right_after answer → verdict ≡ verdict_of answer → verdict ≡ Same → AreSameAt may_open may_refuse remaining request first second
  same_by first second verdict one other c (Ok answer) made is same = record {
    left = c.left;
    left_after = c.left_after;
    right = c.right;
    right_after = c.right_after;
    left_opened = c.left_opened;
    right_opened = c.right_opened;
    files = made.given;
    gives = made.gives;
    same = no_difference _ answer.status _ made.made (zero_from answer.status (sym is ∙ same));
  }
  same_by first second verdict one other c (Err fault) fails is same = absurd (cc)

  same_files : (first second : List ℕ) (verdict : PathVerdict) (one other : RoundedCount)
      → ComparesFiles may_open may_refuse remaining request first second verdict one other → verdict ≡ Same
      → AreSameAt may_open may_refuse remaining request first second
  same_files first second verdict one other (inl c) same = same_by first second verdict one other c c.answer c.answers c.is_verdict same
  same_files first second verdict one other (inr u) same = let is = u.is_verdict in absurd (cc)

  module _ (folders : FoundFolders) where
    same_at : (path : List ℕ) (verdict : PathVerdict) (one other : RoundedCount)
        → JudgesAt may_open may_refuse remaining request folders (path_in folders.left.path path) (path_in folders.right.path path) verdict one other
        → verdict ≡ Same → IsSameBelow may_open may_refuse remaining request folders path
    same_at path verdict one other (inl both) same = record {
      in_left = both.in_left;
      in_right = both.in_right;
      same = same_files (path_in folders.left.path path) (path_in folders.right.path path) verdict one other both.compares same;
    }
    same_at path verdict one other (inr (inl alone)) same = let is = alone.is_verdict in absurd (cc)
    same_at path verdict one other (inr (inr alone)) same = let is = alone.is_verdict in absurd (cc)

    pub same_below : (rows : List ComparedPath) → ArePathsBelow folders (map (λ r. r.path) rows)
        → AllByRecursion (JudgesRow may_open may_refuse remaining request folders) rows → status_of_rows rows ≡ 0
        → (path : List ℕ) → IsIn folders.left path ⊎ IsIn folders.right path → IsSameBelow may_open may_refuse remaining request folders path
    same_below rows are each is path there =
        let from = Contains-unmap (λ (r : ComparedPath). r.path) rows path (are.all path there) in
        let row = from.0 in
        subst (IsSameBelow may_open may_refuse remaining request folders) (sym from.2)
        (same_at row.path row.verdict row.left row.right (holds_of (JudgesRow may_open may_refuse remaining request folders) rows row each from.1)
        (holds_of IsSameRow rows row (all_same rows is) from.1).0)
