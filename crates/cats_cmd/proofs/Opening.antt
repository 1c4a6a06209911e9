-- Paths that were opened, and more of them behind these.
use Rattle.cats_cmd.proofs.Common.{◌≡◌, ℕ, ◌+◌, ◌<◌, List, [], ◌∷◌, ◌++◌, length, map, get_or, take, refl, sym, ap, ◌∙◌, append-nil, Option, Some, None}
use Rattle.cats_cmd.proofs.Common.{◌≤◌, inl, inr, Judged, KeepsFiles, OpensFirst, RunFault, status_of_fault}
use Rattle.cats_cmd.proofs.Common.{Result, Ok, Err, IsErrAnd, IsUtf8, is_utf8, append_assoc, take-map, filter-append, false_from_ne_true}
use Rattle.cats_cmd.proofs.Common.{IsUtf8-from_is_utf8, OpensAllAs, Opens, OpensEach, openings_of, with_openings, FilePath, Opening, Way, opening_of}
use Rattle.std.proofs.lemmas.List.{map_more}

with_more : (known : Option (List Opening)) (some more : List Opening) → with_openings (with_openings known some) more ≡ with_openings known (some ++ more)
with_more None some more = refl
with_more (Some before) some more = ap (λ (os : List Opening). Some os) (append_assoc before some more)

with_none : (known : Option (List Opening)) → known ≡ with_openings known []
with_none None = refl
with_none (Some before) = ap (λ (os : List Opening). Some os) (sym (append-nil before))

module _ {S H : Type 0} (content_of : S → H) (opened : S → Option (List Opening)) where
  pub opens_none : (source : S) → Opens content_of opened source source []
  opens_none source = record { stays = refl; more = with_none (opened source) }

  pub opens_then : (old between new : S) (some more : List Opening) → Opens content_of opened old between some → Opens content_of opened between new more
      → Opens content_of opened old new (some ++ more)
  opens_then old between new some more first later = record {
    stays = later.stays ∙ first.stays;
    more = later.more ∙ ap (λ (known : Option (List Opening)). with_openings known more) first.more ∙ with_more (opened old) some more;
  }

  pub opens_first_none : (source : S) (openings : List Opening) → OpensFirst content_of opened source source openings
  opens_first_none source openings = record { count = 0; opens = opens_none source }

  -- then files and openings stayed what they were
  pub opens_kept : (old between new : S) (some : List Opening) → Opens content_of opened old between some → KeepsFiles content_of opened between new
      → Opens content_of opened old new some
  opens_kept old between new some first kept = record { stays = kept.content ∙ first.stays; more = kept.known ∙ first.more }

  -- they did before
  opens_behind : (old between new : S) (some : List Opening) → KeepsFiles content_of opened old between → Opens content_of opened between new some
      → Opens content_of opened old new some
  opens_behind old between new some kept later = record {
    stays = later.stays ∙ kept.content;
    more = later.more ∙ ap (λ (known : Option (List Opening)). with_openings known some) kept.known;
  }

  pub each_behind : (openings : List Opening) (old between new : S) (status : ℕ) → KeepsFiles content_of opened old between
      → OpensEach content_of opened openings between new status → OpensEach content_of opened openings old new status
  each_behind openings old between new status kept (inl all) = inl (opens_behind old between new (openings_of openings) kept all)
  each_behind openings old between new status kept (inr (least, first)) = inr (
    least,
    record { count = first.count; opens = opens_behind old between new (openings_of (take first.count openings)) kept first.opens },
  )

  -- more of many openings
  pub openings_more : (old between new : S) (some more : List Opening) → Opens content_of opened old between (openings_of some)
      → Opens content_of opened between new (openings_of more) → Opens content_of opened old new (openings_of (some ++ more))
  openings_more old between new some more first later =
      rw (filter-append (λ (o : Opening). is_utf8 o.0) some more) (opens_then old between new (openings_of some) (openings_of more) first later)

  -- one more of many files
  pub opens_next : (old between new : S) (files : List FilePath) (i : ℕ) (d : FilePath) → i < length files
      → Opens content_of opened old between (openings_of (map opening_of (take i files)))
      → Opens content_of opened between new (openings_of (opening_of (get_or files i d) ∷ []))
      → Opens content_of opened old new (openings_of (map opening_of (take (i + 1) files)))
  opens_next old between new files i d l first later =
      rw (map_more opening_of files i d l) (openings_more old between new (map opening_of (take i files)) (opening_of (get_or files i d) ∷ []) first later)

  -- the run was stopped behind one of them
  pub opens_some : (old between new : S) (files : List FilePath) (i : ℕ) (d : FilePath) → i < length files
      → Opens content_of opened old between (openings_of (map opening_of (take i files)))
      → Opens content_of opened between new (openings_of (opening_of (get_or files i d) ∷ []))
      → (answer : Result Judged RunFault) → IsErrAnd answer (λ fault. 4 ≤ status_of_fault fault)
      → OpensAllAs content_of opened (map opening_of files) old new answer
  opens_some old between new files i d l first later (Ok judged) is = absurd is
  opens_some old between new files i d l first later (Err fault) is = (
    is,
    record { count = i + 1; opens = rw (take-map opening_of (i + 1) files) (opens_next old between new files i d l first later) },
  )

-- ---- the path of one file

module _ {S H : Type 0} (content_of : S → H) (opened : S → Option (List Opening)) (way : Way) where
  pub opens_broken : (source : S) (path : List ℕ) → (IsUtf8 path → ⊥) → Opens content_of opened source source (openings_of ((path, way) ∷ []))
  opens_broken source path broken = rw (false_from_ne_true (is_utf8 path) (λ e. broken (IsUtf8-from_is_utf8 path e))) (opens_none content_of opened source)
