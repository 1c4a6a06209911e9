-- `names_of`
use Rattle.std.proofs.Common.{◌≡◌, ◌++◌, suc, drop, length, map}
use Rattle.std.specs.Prelude.{string_bytes}
use Rattle.cats_c.specs.Calls.{names_from, names_of}
use Rattle.cats_c.proofs.call.names.names_of.Given as goal

-- the names so far, and those of the texts that are left
abbrev pub invariant-loop-text : goal.invariant-loop-text
invariant-loop-text l = record {
  all : map string_bytes l.names.items ++ names_from (suc l.text-index) (drop l.text-index l.texts) ≡ names_of l.texts;
  count : length l.names.items ≡ l.text-index;
}
