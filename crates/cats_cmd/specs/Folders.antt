-- The files at paths: the path itself, or, if a folder is there, the files below it.
use Rattle.std.specs.Prelude.{◌≡◌, ◌⊎◌, ◌++◌, if◌then◌else◌, nat_eq, ℕ, false, true, List, [], ◌∷◌, map, Option, Some}
use Rattle.std.specs.Prelude.{None, option_map, Vec}
use Rattle.std.specs.Cmp.Lexicographic.{slice_cmp}
use Rattle.std.specs.Global.{Global}
use Rattle.std.specs.List.{All, ends_with, flat_map}
use Rattle.std.specs.List.Sorted.{IsStrictlySortedBy}
use Rattle.std.specs.Ordering.{nat_cmp}
use Rattle.std.specs.Str.{is_utf8}

-- paths in memory
abbrev pub paths_of : List (Vec ℕ Global) → List (List ℕ)
paths_of paths = map (λ path. path.items) paths

-- the files that a source found below a path, if there was a folder
abbrev pub found_of : Option (Vec (Vec ℕ Global) Global) → Option (List (List ℕ))
found_of found = option_map (λ files. paths_of files.items) found

-- a folder's path, with one slash behind it
abbrev pub with_slash : List ℕ → List ℕ
with_slash folder = if ends_with nat_eq folder (47 ∷ []) then folder else folder ++ 47 ∷ []

abbrev pub BeginsWith : List ℕ → List ℕ → Type 0
BeginsWith start path = (rest : List ℕ) × (path ≡ start ++ rest)

abbrev pub IsBelow : List ℕ → List ℕ → Type 0
IsBelow folder path = BeginsWith (with_slash folder) path

-- paths below a folder, each once, in the order of their bytes
pub record ListsFolder (folder : List ℕ) (files : List (List ℕ)) : Type 0 where
  pub below : All (IsBelow folder) files
  pub sorted : IsStrictlySortedBy (slice_cmp nat_cmp) files

-- a path, and the files below it, if it is a folder's
pub record FoundAt : Type 0 where
  pub path : List ℕ
  pub found : Option (List (List ℕ))

abbrev pub files_of : List ℕ → Option (List (List ℕ)) → List (List ℕ)
files_of path None = path ∷ []
files_of path (Some files) = files

-- the files at a path: those below a folder, or the path itself
abbrev pub files_at : FoundAt → List (List ℕ)
files_at at = files_of at.path at.found

-- `may_find` says what may be found at a path: no folder, or which files below it.
module _ (may_find : List ℕ → Option (List (List ℕ)) → Type 0) where
  -- a source finds no folder at a path, or these files below one
  abbrev pub Finds : List ℕ → Option (List (List ℕ)) → Type 0
  Finds path None = may_find path None
  Finds path (Some files) = may_find path (Some files) × ListsFolder path files

  -- Nothing is looked for at a path that is not UTF-8, as the library opens no such path.
  abbrev pub FindsAt : List ℕ → Option (List (List ℕ)) → Type 0
  FindsAt path None = may_find path None ⊎ (is_utf8 path ≡ false)
  FindsAt path (Some files) = (is_utf8 path ≡ true) × may_find path (Some files) × ListsFolder path files

  -- what is made of these paths, in their order, and of what is found at each
  pub record AreMadeAt {A : Type 0} (made_of : FoundAt → List A) (paths : List (List ℕ)) (made : List A) : Type 0 where
    pub found : List FoundAt
    pub of_paths : map (λ f. f.path) found ≡ paths
    pub finds : All (λ f. FindsAt f.path f.found) found
    pub is : made ≡ flat_map made_of found

  -- the files at these paths, in the order of the paths
  abbrev pub AreFilesAt : List (List ℕ) → List (List ℕ) → Type 0
  AreFilesAt paths files = AreMadeAt files_at paths files
