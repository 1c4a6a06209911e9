-- `Atom::keeps_limits`: the first good from the number of goods on is there exactly where the bundle is not below that number.
use Rattle.valuation.proofs.Common.{rules, arith, ◌≡◌, ℕ, List, Some, None, sym, ap, ◌∙◌, both_ways, cases_lt, ltb-true, lt-ltb, IsRising, AreBelow, good_from}
use Rattle.valuation.proofs.Common.{has_below, AreBelow-from_has, good_from-Some, good_from-None}
use Rattle.valuation.proofs.atom.Atom.keeps_limits.Goals as goal

-- no good is at least the number of goods
below : (goods : ℕ) (xs : List ℕ) → good_from xs goods ≡ None → AreBelow goods xs
below goods xs e = search (rules, AreBelow-from_has, both_ways, good_from-None, cases_lt)

not_below : (goods : ℕ) (xs : List ℕ) (m : ℕ) → IsRising xs → good_from xs goods ≡ Some m → AreBelow goods xs → ⊥
not_below goods xs m r e b =
    let next = good_from-Some xs goods m r e in
    let l = has_below goods xs m b next.there in
    let k = next.from in
    omega arith

pub returns-in-Some : goal.returns-in-Some
returns-in-Some g c =
    let xs = g.S.GoodsSet.goods c.args.self.now.bundle in (
      λ t. cc,
      λ a. absurd (not_below c.args.goods xs _ (g.met.S.GoodsSet.is_bundle _).0 (ap (good_from xs) (sym c.from.ensures) ∙ sym c.in-Some.ensures) a.bundle.1),
    )

pub returns-in-None : goal.returns-in-None
returns-in-None g c = search (rules, ltb-true, below, lt-ltb)
