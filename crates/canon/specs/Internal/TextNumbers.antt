-- The number that a map has for a text.
use Rattle.std.specs.Prelude.{ℕ, List, Option, Vec}
use Rattle.std.specs.BTreeMap.{BTreeMap, get_by}
use Rattle.std.specs.Cmp.Lexicographic.{slice_cmp}
use Rattle.std.specs.Global.{Global}
use Rattle.std.specs.Ordering.{nat_cmp}

abbrev pub number_of : BTreeMap (Vec ℕ Global) ℕ → List ℕ → Option ℕ
number_of numbers text = get_by (λ key. slice_cmp nat_cmp text key.items) numbers
