-- Texts with their numbers, in a map from the texts.
use Rattle.std.specs.Prelude.{◌≡◌, ◌++◌, ℕ, true, List, [], ◌∷◌, map, Option, Some, None, Vec, slice_get, Result, Ok}
use Rattle.std.specs.Prelude.{Err}
use Rattle.cats_cmd.specs.Folders.{BeginsWith}
use Rattle.std.specs.BTreeMap.{BTreeMap, get_by}
use Rattle.std.specs.Cmp.Lexicographic.{slice_cmp}
use Rattle.std.specs.Global.{Global}
use Rattle.std.specs.Ordering.{nat_cmp}
use Rattle.cats_cmd.specs.Opening.{Opening}
use Rattle.cats_cmd.specs.TextPaths.{AreSeparate, Collides, LeadsOut, PlacedText, leads_below}
use Rattle.std.specs.List.{All}
use Rattle.cats_cmd.specs.declared.text_paths.Misplaced.{Misplaced}
use Rattle.cats_cmd.specs.declared.text_paths.Misplaced.TheVariants.{Collision, Outside}
use Rattle.cats_cmd.specs.declared.text_paths.TextPlace.{TextPlace}

-- files in memory, each with the path of its text
abbrev pub plain_places : List TextPlace → List PlacedText
plain_places places = map (λ p. record { file = p.file.items; text = p.text.items }) places

-- the files, and how each is opened
abbrev pub place_openings : List TextPlace → List Opening
place_openings places = map (λ p. (p.file.items, p.way)) places

-- the number that a map has for a text
abbrev pub number_in : BTreeMap (Vec ℕ Global) ℕ → List ℕ → Option ℕ
number_in numbers text = get_by (λ key. slice_cmp nat_cmp text key.items) numbers

-- the text has this number, or none
abbrev pub IsNumberOf : List (List ℕ) → List ℕ → Option ℕ → Type 0
IsNumberOf texts text None = (number : ℕ) → slice_get texts number ≡ Some text → ⊥
IsNumberOf texts text (Some number) = slice_get texts number ≡ Some text

-- the map has the number of each text, and no two texts are the same
pub record NumbersTexts (texts : List (List ℕ)) (numbers : BTreeMap (Vec ℕ Global) ℕ) : Type 0 where
  pub numbers_each : (text : List ℕ) → IsNumberOf texts text (number_in numbers text)
  pub once : (first second : ℕ) (text : List ℕ) → slice_get texts first ≡ Some text → slice_get texts second ≡ Some text
      → first ≡ second

-- numbers for all texts, or two texts that are the same
abbrev pub NumbersOrCollides : List (List ℕ) → Result (BTreeMap (Vec ℕ Global) ℕ) Misplaced → Type 0
NumbersOrCollides texts (Ok numbers) = NumbersTexts texts numbers
NumbersOrCollides texts (Err (Outside number)) = ⊥
NumbersOrCollides texts (Err (Collision first second)) = Collides texts first second

-- This number is that of the path of a folder in which the text would be. Without one no path of such a folder has one.
abbrev pub IsBelowOne : BTreeMap (Vec ℕ Global) ℕ → List ℕ → Option ℕ → Type 0
IsBelowOne numbers text None = (above : List ℕ) → BeginsWith (above ++ 47 ∷ []) text → number_in numbers above ≡ None
IsBelowOne numbers text (Some number) =
    (above : List ℕ) × BeginsWith (above ++ 47 ∷ []) text × (number_in numbers above ≡ Some number)

-- all texts are below the folder, or the one with this number is not
abbrev pub FindsOutside : List (List ℕ) → Option ℕ → Type 0
FindsOutside texts None = All (λ text. leads_below text ≡ true) texts
FindsOutside texts (Some number) = LeadsOut texts number

-- the texts are separate, or these two are not
abbrev pub FindsCollision : List (List ℕ) → Option Misplaced → Type 0
FindsCollision texts None = AreSeparate texts
FindsCollision texts (Some (Outside number)) = ⊥
FindsCollision texts (Some (Collision first second)) = Collides texts first second

-- the texts are all below the folder, and separate, or this is the one that is not
abbrev pub FindsMisplaced : List (List ℕ) → Option Misplaced → Type 0
FindsMisplaced texts None = All (λ text. leads_below text ≡ true) texts × AreSeparate texts
FindsMisplaced texts (Some (Outside number)) = LeadsOut texts number
FindsMisplaced texts (Some (Collision first second)) = Collides texts first second
