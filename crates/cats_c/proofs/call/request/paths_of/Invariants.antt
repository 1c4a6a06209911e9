-- `paths_of`
use Rattle.std.proofs.Common.{◌≡◌, map, take}
use Rattle.std.specs.Prelude.{string_bytes}
use Rattle.cats_c.proofs.call.request.paths_of.Given as goal

-- the names so far are paths
abbrev pub invariant-loop-name : goal.invariant-loop-name
invariant-loop-name l = map (λ path. path.now) l.paths.items ≡ map string_bytes (take l.name-index l.names)
