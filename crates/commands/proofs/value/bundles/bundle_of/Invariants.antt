-- `bundle_of`
use Rattle.commands.proofs.Common.{◌≡◌, take, bundle_from}
use Rattle.commands.proofs.value.bundles.bundle_of.Given as goal

-- the goods so far are in the bundle
abbrev pub invariant-loop-good : goal.invariant-loop-good
invariant-loop-good g l = g.S.GoodsSet.goods l.bundle ≡ bundle_from (take l.good-index l.goods)
