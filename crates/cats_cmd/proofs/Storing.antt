-- Texts that were to be written, and more of them.
use Rattle.cats_cmd.proofs.Common.{◌≡◌, ℕ, List, [], ◌∷◌, ◌++◌, refl, sym, ap, ◌∙◌, subst, Option, Some, None, AllByRecursion, append-nil, append_assoc}
use Rattle.cats_cmd.proofs.Common.{flat_map-append, Attempt, Judgement, PrintsNothing, ShowsNext, Text, Unwritten, WritesEach, text_unless, texts_written}
use Rattle.cats_cmd.proofs.Common.{with_texts, Bool, true, false, length, arith, length-append, IsUnwritten, IsUtf8, with_slash, ◌≤◌}
use Rattle.cats_cmd.specs.Stores.{path_in}
use Rattle.std.specs.Prelude.{if◌then◌else◌, nat_eq}
use Rattle.std.specs.List.{ends_with}
use Rattle.std.proofs.Math.Seq.{drop-append_seam, take-append_seam}
use Rattle.std.proofs.lemmas.Str.{IsCharBoundary-from_take, IsUtf8-append, IsUtf8-drop}

with_none : (known : Option (List Text)) → with_texts known [] ≡ known
with_none None = refl
with_none (Some before) = ap (λ (ts : List Text). Some ts) (append-nil before)

with_more : (known : Option (List Text)) (some more : List Text) → with_texts (with_texts known some) more ≡ with_texts known (some ++ more)
with_more None some more = refl
with_more (Some before) some more = ap (λ (ts : List Text). Some ts) (append_assoc before some more)

all_both : {X : Type 0} (P : X → Type 0) (xs ys : List X) → AllByRecursion P xs → AllByRecursion P ys → AllByRecursion P (xs ++ ys)
all_both P [] ys h k = k
all_both P (x ∷ xs) ys h k = (h.0, all_both P xs ys h.1 k)

module _ {may_not_write : List ℕ → Unwritten → Type 0} where
  pub wrote_nothing : (known : Option (List Text)) → WritesEach may_not_write known known []
  wrote_nothing known = record { texts = sym (with_none known); reasons = tt }

  -- nothing was to be written
  pub wrote_none : (known now : Option (List Text)) → WritesEach may_not_write known now [] → known ≡ now
  wrote_none known now wrote = sym (wrote.texts ∙ with_none known)

  pub wrote_then : (first between last : Option (List Text)) (some more : List Attempt) → WritesEach may_not_write first between some
      → WritesEach may_not_write between last more → WritesEach may_not_write first last (some ++ more)
  wrote_then first between last some more one two = record {
    texts = two.texts ∙ ap (λ (known : Option (List Text)). with_texts known (texts_written more)) one.texts
        ∙ with_more first (texts_written some) (texts_written more)
        ∙ ap (λ (texts : List Text). with_texts first texts) (sym (flat_map-append (λ (a : Attempt). text_unless (a.path, a.text) a.unwritten) some more));
    reasons = all_both _ some more one.reasons two.reasons;
  }

  -- nothing was written first
  pub wrote_behind : (first between last : Option (List Text)) (more : List Attempt) → between ≡ first → WritesEach may_not_write between last more
      → WritesEach may_not_write first last more
  wrote_behind first between last more same wrote = subst (λ (known : Option (List Text)). WritesEach may_not_write known last more) same wrote

  -- a text was to be written
  pub attempt_written : (known now : Option (List Text)) (path text : List ℕ) → now ≡ with_texts known ((path, text) ∷ [])
      → WritesEach may_not_write known now (record { path = path; text = text; unwritten = None } ∷ [])
  attempt_written known now path text more = record { texts = more; reasons = (tt, tt) }

  pub attempt_failed : (known now : Option (List Text)) (path text : List ℕ) (why : Unwritten) → IsUnwritten may_not_write path why → now ≡ known
      → WritesEach may_not_write known now (record { path = path; text = text; unwritten = Some why } ∷ [])
  attempt_failed known now path text why reason same = record { texts = same ∙ sym (with_none known); reasons = (reason, tt) }

-- ---- paths that are not UTF-8

-- what is behind a text is UTF-8, if both are together
utf8_behind : (start rest : List ℕ) → IsUtf8 start → IsUtf8 (start ++ rest) → IsUtf8 rest
utf8_behind start rest is whole =
    let long : length start ≤ length (start ++ rest) = omega (arith, length-append start rest) in
    subst IsUtf8 (drop-append_seam start rest) (IsUtf8-drop (start ++ rest) (length start) whole
    (IsCharBoundary-from_take (start ++ rest) (length start) whole long (subst IsUtf8 (sym (take-append_seam start rest)) is)))

slash : IsUtf8 (47 ∷ [])
unfolding lib.Utf8.encode
slash = (47 ∷ [], (refl, refl))

-- a path below a folder whose path is
pub not_utf8_below : (folder path : List ℕ) → IsUtf8 folder → (IsUtf8 path → ⊥) → IsUtf8 (path_in folder path) → ⊥
not_utf8_below folder path is not whole = not (utf8_behind (with_slash folder) path (slashed (ends_with nat_eq folder (47 ∷ []))) whole)
  where
    slashed : (b : Bool) → IsUtf8 (if b then folder else folder ++ 47 ∷ [])
    slashed true = is
    slashed false = IsUtf8-append folder (47 ∷ []) is slash

-- nothing is printed of a path
pub shows_nothing : {C : Type 0} (Has : C → List (List ℕ × Judgement) → Type 0) (path : List ℕ) (kept : C) (judgement : Judgement) (text : List ℕ) → text ≡ []
    → ShowsNext Has PrintsNothing path judgement text [] kept
shows_nothing Has path kept judgement text none js printed attempts has shows = (rw (none, shows.0) refl, rw shows.1 refl)
