-- Where texts are written, what writing one does, and which of those that were to be written were.
use Rattle.std.specs.Prelude.{◌≡◌, ◌⊎◌, ◌++◌, ℕ, Bool, true, false, List, [], ◌∷◌, Option, Some, None, option_map}
use Rattle.std.specs.Prelude.{Result, Ok}
use Rattle.std.specs.Prelude.{Err}
use Rattle.std.specs.Prelude.{bytes_eq, IfSome}
use Rattle.std.specs.List.{AllByRecursion, flat_map, list_any}
use Rattle.std.specs.Str.{IsUtf8}
use Rattle.std.specs.declared.alloc.AllocError.{AllocError}
use Rattle.cats_cmd.specs.Folders.{with_slash}
use Rattle.commands.specs.declared.faults.Unwritten.{Unwritten}
use Rattle.commands.specs.declared.faults.Unwritten.TheVariants.{Exists, Other}

-- a path, and the bytes of the text that was written there
abbrev pub Text : Type 0
Text = List ℕ × List ℕ

-- a path below a folder, with the folder's own before it
abbrev pub path_in : List ℕ → List ℕ → List ℕ
path_in folder path = with_slash folder ++ path

-- whether a text was written at the path
abbrev pub has_text : List Text → List ℕ → Bool
has_text texts path = list_any (λ t. bytes_eq t.0 path) texts

-- known texts with more behind them
abbrev pub with_texts : Option (List Text) → List Text → Option (List Text)
with_texts known more = option_map (λ before. before ++ more) known

-- no text was written at the path, as far as it is known which texts were
abbrev pub LacksText : Option (List Text) → List ℕ → Type 0
LacksText known path = IfSome known (λ texts. has_text texts path ≡ false)

-- if something may be at a path, a text may not be written there, and else none was, as far as it is known
abbrev pub MayHave : (List ℕ → Unwritten → Type 0) → Option (List Text) → List ℕ → Bool → Type 0
MayHave may_not_write known path true = may_not_write path Exists
MayHave may_not_write known path false = LacksText known path

-- `texts_of` says which texts a store has, if that is known, and `may_not_write` why it may not write one.
module _ {S : Type 0} (texts_of : S → Option (List Text)) (may_not_write : List ℕ → Unwritten → Type 0) where
  -- the text was written, at a path that had none
  pub record WritesText (path text : List ℕ) (old new : S) : Type 0 where
    pub absent : LacksText (texts_of old) path
    pub more : texts_of new ≡ with_texts (texts_of old) ((path, text) ∷ [])

  -- The text was written, or, for this reason, nothing was.
  abbrev pub Writes : List ℕ → List ℕ → S → S → Result (Result (Unit {0}) Unwritten) AllocError → Type 0
  Writes path text old new (Ok (Ok done)) = WritesText path text old new
  Writes path text old new (Ok (Err why)) = may_not_write path why × (texts_of new ≡ texts_of old)
  Writes path text old new (Err e) = texts_of new ≡ texts_of old

-- ---- the texts of a run

-- a text that was to be written at a path, and why it was not, if it was not
pub record Attempt : Type 0 where
  pub path : List ℕ
  pub text : List ℕ
  pub unwritten : Option Unwritten

abbrev pub text_unless : Text → Option Unwritten → List Text
text_unless text None = text ∷ []
text_unless text (Some why) = []

-- the texts that were written
abbrev pub texts_written : List Attempt → List Text
texts_written attempts = flat_map (λ a. text_unless (a.path, a.text) a.unwritten) attempts

module _ (may_not_write : List ℕ → Unwritten → Type 0) where
  -- nothing is written at the path, for this reason: it may not be, or the path is not UTF-8
  abbrev pub IsUnwritten : List ℕ → Unwritten → Type 0
  IsUnwritten path why = may_not_write path why ⊎ ((why ≡ Other) × (IsUtf8 path → ⊥))

  -- Of these attempts the texts are known that were written, in order. For the others there is a reason.
  pub record WritesEach (known known_after : Option (List Text)) (attempts : List Attempt) : Type 0 where
    pub texts : known_after ≡ with_texts known (texts_written attempts)
    pub reasons : AllByRecursion (λ a. IfSome a.unwritten (IsUnwritten a.path)) attempts
