-- `Holders::first_waiting`
use Rattle.analysis.proofs.Common.{rules, ◌∙◌, ◌≤◌, ℕ, get_or, length, sym, ap, arith, Vec, Global, waits_at, get_or_default_zero}
use Rattle.analysis.proofs.Comparing.HoldersFound.{first_passes}
use Rattle.analysis.proofs.Explaining.KeptBidsLists.{filter_none}
use Rattle.analysis.proofs.differences.holders.Holders.first_waiting.Goals as goal

pub returns-then-waits-clause-first : goal.returns-then-waits-clause-first
returns-then-waits-clause-first c = search (rules, get_or_default_zero, first_passes)

pub returns-clause-first : goal.returns-clause-first
returns-clause-first c = λ passed.
    let same = ap (λ (v : Vec ℕ Global). v.items) c.loop-self.invariant.indices in
    let past : length c.args.self.now.indices.items ≤ c.loop-self.self.passed =
    omega (arith, c.loop-self-test.false, c.len.ensures, c.loop-self.self.indices.ok.0, ap length same) in
    filter_none (waits_at c.args.waiting.now) c.args.self.now.indices.items 0
    (λ j l. ap (λ zs. waits_at c.args.waiting.now (get_or zs j 0)) (sym same) ∙ c.loop-self.invariant.passed passed j (omega (arith, past, l)))
