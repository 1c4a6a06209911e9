-- Judgements for worked examples of `cats publish`.
use Rattle.std.specs.Prelude.{◌≡◌, ◌++◌, ℕ, List, [], ◌∷◌, map, codes, length, Option, None}
use Rattle.bid_file.specs.Files.{PlainFile}
use Rattle.canon.specs.Canonical.{canonical_file}
use Rattle.cats_cmd.specs.TextPaths.{PlacedText}
use Rattle.commands.specs.Judgements.{Judgement, IsPublished}
use Rattle.commands.specs.declared.faults.Unwritten.{Unwritten}

-- the texts of two files
abbrev pub two_places : List PlacedText
two_places = map (λ text. record { file = codes "x/" ++ text; text = text }) (codes "a" ∷ codes "b" ∷ [])

-- so many goods, bids, and bids of the canonical file
pub record HasSizes (file : PlainFile) (goods bids kept : ℕ) : Type 0 where
  pub goods_are : file.goods ≡ goods
  pub bids_are : length file.bids ≡ bids
  pub kept_are : length (canonical_file file).bids ≡ kept

abbrev pub published : PlainFile → ℕ → ℕ → Option Unwritten → Judgement
published file rounded zeroed unwritten =
    IsPublished file (record { rounded = rounded; zeroed = zeroed; unwritten = unwritten })

-- one file that was published before
abbrev pub one_before : PlainFile → List (List ℕ × Judgement)
one_before file = (codes "x/a", published file 0 0 None) ∷ []
