-- Where texts can be written. And a run that publishes files, or refuses them.
use Rattle.cats_cmd.proofs.Common.{◌≡◌, ◌+◌, ◌≤◌, ℕ, length, take, List, [], Option, Some, None, inl, inr, refl, Result, Bool, All, All-push, take_all, Bor}
use Rattle.cats_cmd.proofs.Common.{IsUtf8}
use Rattle.cats_cmd.proofs.Common.{option_map, unwrap_or, PriceRule, Reporting, RunFault, SearchOptions, Text, Unopened, Unwritten, Watched, OpensEach}
use Rattle.cats_cmd.proofs.Common.{AreMadeAt, Opening, Way, openings_at}
use Rattle.cats_cmd.proofs.PlacingTexts.{take_next}
use Rattle.cats_cmd.specs.Internal.PublishRuns.{PublishesInto}
use Rattle.cats_cmd.specs.Opening.{OpensAtPaths}
use Rattle.cats_cmd.specs.PublishRuns.{AreFree, PublishesAtPaths}
use Rattle.cats_cmd.specs.Stores.{LacksText, path_in}
use Rattle.cats_cmd.specs.TextPaths.{AreTextPlaces, PlacedText}
use Rattle.std.specs.Prelude.{slice_get}

module _ (known : Option (List Text)) (folder : List ℕ) (texts : List (List ℕ)) where
  -- nothing is at the path of one text more
  pub free_next : (i : ℕ) (text : List ℕ) → slice_get texts i ≡ Some text → (IsUtf8 text → LacksText known (path_in folder text))
      → AreFree known folder (take i texts) → AreFree known folder (take (i + 1) texts)
  free_next i text there lacks before =
      rw (take_next texts i text there) (All-push (λ (t : List ℕ). IsUtf8 t → LacksText known (path_in folder t)) (take i texts) text before lacks)

  -- these were all
  pub all_free : (i : ℕ) → length texts ≤ i → AreFree known folder (take i texts) → AreFree known folder texts
  all_free i most all = rw (take_all i texts most) at all

-- ---- the run

-- the folder of a request, or none
pub folder_if : (folder : Option (Bor (List ℕ))) (none : Bor (List ℕ)) → none.now ≡ []
    → (unwrap_or folder none).now ≡ unwrap_or (option_map (λ f. f.now) folder) []
folder_if None none empty = empty
folder_if (Some folder) none empty = refl

module _ {F W E : Type 0} (may_open : List ℕ → F → Type 0) (may_refuse : List ℕ → Unopened → Type 0) (remaining : F → Option (List ℕ))
    (contents : W → Option (List ℕ)) (messages : E → Option (List ℕ)) (may_not_write : List ℕ → Unwritten → Type 0) (known known_after : Option (List Text))
    (options : SearchOptions) (prices : Option PriceRule) (all : Bool) (reporting : Reporting) (folder : List ℕ)
    (may_find : List ℕ → Option (List (List ℕ)) → Type 0) (out out_after : Watched W) (err err_after : Watched E) (answer : Result ℕ RunFault) where
  -- the run on the files that were found at the paths
  pub published : (found paths : List (List ℕ)) (places : List PlacedText) → AreTextPlaces may_find found places → found ≡ paths
      → PublishesInto may_open may_refuse remaining contents messages may_not_write known known_after options prices all reporting folder places out
      out_after err err_after answer
      → PublishesAtPaths may_open may_refuse remaining contents messages may_not_write known known_after options prices all reporting folder may_find paths
      out out_after err err_after answer
  published found paths places are same (inl runs) = inl (record { places = places; are = rw same at are; runs = runs })
  published found paths places are same (inr memory) = inr memory

pub opens_placed : {S H : Type 0} (content_of : S → H) (opened : S → Option (List Opening)) (may_find : H → List ℕ → Option (List (List ℕ)) → Type 0)
    (way : Way) (old new : S) (status : ℕ) (found paths : List (List ℕ)) (openings : List Opening)
    → AreMadeAt (may_find (content_of old)) (openings_at way) found openings → found ≡ paths → OpensEach content_of opened openings old new status
    → OpensAtPaths content_of opened may_find way paths old new status
opens_placed content_of opened may_find way old new status found paths openings are same opens =
    inl (record { openings = openings; are = rw same at are; opens = opens })
