-- What a source has opened: each path once, in the order of the request, and in which way.
use Rattle.std.specs.Prelude.{◌≡◌, ◌≤◌, ◌⊎◌, ◌++◌, ℕ, List, [], ◌∷◌, filter, map, take, Option, Some, None, option_map}
use Rattle.std.specs.Prelude.{if◌then◌else◌}
use Rattle.std.specs.Str.{is_utf8}
use Rattle.requests.specs.Tasks.{gives_reason}
use Rattle.requests.specs.declared.task.Task.{Task}
use Rattle.cats_cmd.specs.Folders.{AreMadeAt, FoundAt}
use Rattle.cats_cmd.specs.declared.source.Way.{Way}
use Rattle.cats_cmd.specs.declared.source.Way.TheVariants.{Anything, NoFolder, Regular}

-- a path, and how it is opened: whatever is there, no folder, or only a regular file
abbrev pub Opening : Type 0
Opening = List ℕ × Way

-- known openings with more behind them
abbrev pub with_openings : Option (List Opening) → List Opening → Option (List Opening)
with_openings known more = option_map (λ before. before ++ more) known

-- paths that are opened in one way
abbrev pub in_way : Way → List (List ℕ) → List Opening
in_way way paths = map (λ path. (path, way)) paths

-- those of some openings that a source is asked for: a path that is not UTF-8 is not opened
abbrev pub openings_of : List Opening → List Opening
openings_of openings = filter (λ o. is_utf8 o.0) openings

-- how a command opens one file or two. Some open whatever is there, and do not say why that fails; the others open no
-- folder
abbrev pub way_of : Task → Way
way_of task = if gives_reason task then NoFolder else Anything

-- what is opened at a path where this was found: below a folder only regular files, and else the path itself, in a way
abbrev pub openings_found : Way → List ℕ → Option (List (List ℕ)) → List Opening
openings_found way path None = (path, way) ∷ []
openings_found way path (Some files) = in_way Regular files

-- what is opened at a path: of a folder the regular files below it, and else the path itself, in a way
abbrev pub openings_at : Way → FoundAt → List Opening
openings_at way at = openings_found way at.path at.found

-- `content_of` says what a source holds, and `opened` what it has opened, if that is known.
module _ {S H : Type 0} (content_of : S → H) (opened : S → Option (List Opening)) where
  -- a source has made these openings more, in order, refused ones too, and holds what it held
  pub record Opens (old new : S) (openings : List Opening) : Type 0 where
    pub stays : content_of new ≡ content_of old
    pub more : opened new ≡ with_openings (opened old) openings

  -- it holds what it held, and has opened what it had
  pub record KeepsFiles (old new : S) : Type 0 where
    pub content : content_of new ≡ content_of old
    pub known : opened new ≡ opened old

  -- it has made the first of these openings
  pub record OpensFirst (old new : S) (openings : List Opening) : Type 0 where
    pub count : ℕ
    pub opens : Opens old new (openings_of (take count openings))

  -- it has made all of these openings, or the first of them, as the run was stopped
  abbrev pub OpensEach : List Opening → S → S → ℕ → Type 0
  OpensEach openings old new status =
      Opens old new (openings_of openings) ⊎ ((4 ≤ status) × OpensFirst old new openings)

  module _ (may_find : H → List ℕ → Option (List (List ℕ)) → Type 0) where
    -- what is at these paths is opened in a way, or, where a folder is found, the regular files below it
    pub record OpensFound (way : Way) (paths : List (List ℕ)) (old new : S) (status : ℕ) : Type 0 where
      pub openings : List Opening
      pub are : AreMadeAt (may_find (content_of old)) (openings_at way) paths openings
      pub opens : OpensEach openings old new status

    -- it is, or memory was refused while folders were read, and nothing is opened
    abbrev pub OpensAtPaths : Way → List (List ℕ) → S → S → ℕ → Type 0
    OpensAtPaths way paths old new status = OpensFound way paths old new status ⊎ ((status ≡ 4) × (new ≡ old))
