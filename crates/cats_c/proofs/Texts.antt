-- A text in the place of one that is not there, where an index is known to be within a list.
use Rattle.cats_c.specs.Examples.{named}
use Rattle.cats_c.specs.declared.call.CallText.{CallText}
use Rattle.std.specs.Prelude.{[]}

abbrev pub nobody : CallText
nobody = named []
