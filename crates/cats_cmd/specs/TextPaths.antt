-- Where `cats publish` writes the text of each file: at its path below the folder that was named, or at its own name.
use Rattle.std.specs.Prelude.{◌≡◌, ◌⊎◌, ◌++◌, ◌||◌, ◌==◌, ◌-◌, ℕ, Bool, not, false, List, [], ◌∷◌, drop, length}
use Rattle.std.specs.Prelude.{map}
use Rattle.std.specs.Prelude.{Option, Some, None, bytes_eq, codes, slice_get, unwrap_or}
use Rattle.std.specs.List.{list_all, slice_split}
use Rattle.cats_cmd.specs.Folders.{AreMadeAt, BeginsWith, FoundAt, with_slash}

-- a file, and the path of its text below the folder of all texts
pub record PlacedText : Type 0 where
  pub file : List ℕ
  pub text : List ℕ

-- the parts of a path, which slashes divide
abbrev pub path_parts : List ℕ → List (List ℕ)
path_parts path = slice_split (λ b. b == 47) path

-- the last part of a path
abbrev pub own_name : List ℕ → List ℕ
own_name path = unwrap_or (slice_get (path_parts path) (length (path_parts path) - 1)) []

-- the path of a file below a folder, without the folder's own
abbrev pub path_below : List ℕ → List ℕ → List ℕ
path_below folder file = drop (length (with_slash folder)) file

abbrev pub text_places_of : List ℕ → Option (List (List ℕ)) → List PlacedText
text_places_of path None = record { file = path; text = own_name path } ∷ []
text_places_of path (Some files) = map (λ file. record { file = file; text = path_below path file }) files

-- the files at a path, each with the path of its text: the file's own name, or its path below the folder at that path
abbrev pub text_places_at : FoundAt → List PlacedText
text_places_at at = text_places_of at.path at.found

module _ (may_find : List ℕ → Option (List (List ℕ)) → Type 0) where
  -- these are the files at these paths, each with the path of its text
  abbrev pub AreTextPlaces : List (List ℕ) → List PlacedText → Type 0
  AreTextPlaces paths places = AreMadeAt may_find text_places_at paths places

-- the paths of the texts
abbrev pub texts_at : List PlacedText → List (List ℕ)
texts_at places = map (λ p. p.text) places

-- ---- paths that are refused

-- whether a part of a path names a file or a folder: it is not empty, `.` or `..`
abbrev pub is_name : List ℕ → Bool
is_name part = not ((length part == 0) || (bytes_eq part (codes ".") || bytes_eq part (codes "..")))

-- whether a path leads to what is below the folder that it is looked for in
abbrev pub leads_below : List ℕ → Bool
leads_below path = list_all is_name (path_parts path)

-- a path is another one, or begins with it as that of a folder
abbrev pub IsAtOrBelow : List ℕ → List ℕ → Type 0
IsAtOrBelow above path = (path ≡ above) ⊎ BeginsWith (above ++ 47 ∷ []) path

-- no two of these paths are the same, and none is that of a folder in another
abbrev pub AreSeparate : List (List ℕ) → Type 0
AreSeparate texts = (first second : ℕ) (above path : List ℕ) → slice_get texts first ≡ Some above
    → slice_get texts second ≡ Some path → IsAtOrBelow above path → first ≡ second

-- the second of two texts would be at the first or below it
pub record Collides (texts : List (List ℕ)) (first second : ℕ) : Type 0 where
  pub above : List ℕ
  pub path : List ℕ
  pub has_first : slice_get texts first ≡ Some above
  pub has_second : slice_get texts second ≡ Some path
  pub two : first ≡ second → ⊥
  pub meet : IsAtOrBelow above path

-- the text with this number would not be below the folder
pub record LeadsOut (texts : List (List ℕ)) (number : ℕ) : Type 0 where
  pub text : List ℕ
  pub there : slice_get texts number ≡ Some text
  pub leads_out : leads_below text ≡ false
