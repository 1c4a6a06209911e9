-- Gathering a line that is to be sent by one write.
use Rattle.std.specs.Prelude.{◌≡◌, ◌++◌, ℕ, List, Option}
use Rattle.cats_text.specs.declared.stream.Watched.{Watched}
use Rattle.cats_cmd.specs.Escaping.{escaped}
use Rattle.cats_cmd.specs.Reports.{Reports}

module _ {E : Type 0} (contents : E → Option (List ℕ)) where
  -- the text was put behind what of the line was not yet sent, of which the beginning may have been sent
  pub record Gathers (text line line_after : List ℕ) (old new : Watched E) : Type 0 where
    pub sent : List ℕ
    pub reports : Reports contents sent old new
    pub all : sent ++ line_after ≡ line ++ text

  -- the beginning of the path was put behind the line as it is printed there, and this is the rest
  pub record GathersNext (path rest line line_after : List ℕ) (old new : Watched E) : Type 0 where
    pub text : List ℕ
    pub gathers : Gathers text line line_after old new
    pub completes : text ++ escaped rest ≡ escaped path
