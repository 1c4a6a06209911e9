-- `push_xor_lines`
use Rattle.commands.proofs.Common.{◌≡◌, ◌++◌, flat_map, range_with_len, dummy_line}
use Rattle.commands.proofs.value.lines.push_xor_lines.Given as goal

-- the lines of the bidders so far are printed
abbrev pub invariant-loop-dummy : goal.invariant-loop-dummy
invariant-loop-dummy g l = l.text.items ≡ l.fn.text.items ++ flat_map (dummy_line l.file (g.S.GoodsSet.goods l.bundle)) (range_with_len 0 l.dummy)
