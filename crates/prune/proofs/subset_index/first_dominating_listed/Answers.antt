-- `first_dominating_listed`: the first so far is that of the goods so far: see proofs/FirstDominating.
use Rattle.prune.proofs.Common.{rules, ◌≡◌, ◌<◌, ℕ, List, get_or, length, sym, subst, take, arith, true, false, All, length-take-le, take-map, Atom}
use Rattle.prune.proofs.Common.{length-atoms_of, atoms_of, plain_atom, Posting, lists_of, indices_of, indices_at, dominates_at}
use Rattle.prune.proofs.ListedAtoms.{next_there, none_there, behind_next}
use Rattle.prune.proofs.FirstDominating.{IsFirstSoFar-all, IsFirstSoFar-more, IsFirstSoFar-some, postings_before}
use Rattle.prune.proofs.subset_index.first_dominating_listed.Goals as goal

pub first_dominating_among-first-requires-clause-listed : goal.first_dominating_among-first-requires-clause-listed
first_dominating_among-first-requires-clause-listed g c = search (rules, postings_before)

pub loop-good-preserved : goal.loop-good-preserved
loop-good-preserved g c =
    let seen = g.S.GoodsSet.goods in
    let atoms = atoms_of seen c.args.kept.now in
    let bundle = seen c.args.bid.now.bundle in
    let price = c.args.bid.now.price in
    let goods = c.args.goods.now in
    let index = c.loop-good.good-index in
    let first = c.loop-good.first in
    let rises = (g.met.S.GoodsSet.is_bundle c.args.bid.now.bundle).0 in
    let h = c.loop-good.invariant in
    let got = c.first_dominating_among-first.ensures in
    let next = c.first_dominating_among-first.result in
    let before : atoms_of seen (take first c.args.kept.now) ≡ take first atoms = sym (take-map (plain_atom seen) first c.args.kept.now) in
    let long : length (take first c.args.kept.now) ≡ first =
    length-take-le first c.args.kept.now (omega (arith, h.within, length-atoms_of seen c.args.kept.now)) in
    rw (sym (behind_next goods bundle index c.requires.goods))
    (IsFirstSoFar-more (lists_of c.args.lists.now) atoms bundle price _ _ first next rises
    (next_there goods bundle index c.requires.goods rises c.loop-good-test.true) (omega (arith, got.within, long))
    (λ l. subst (λ (zs : List (Atom (List ℕ))). dominates_at zs bundle price next ≡ true) before (got.found (omega (arith, l, long))))
    (subst (λ (zs : List (Atom (List ℕ))). All (λ index. index < next → dominates_at zs bundle price index ≡ false)
    (indices_at (lists_of c.args.lists.now) (get_or goods index 0))) before
    (subst (λ (ps : List Posting). All (λ index. index < next → dominates_at (atoms_of seen (take first c.args.kept.now)) bundle price index ≡ false)
    (indices_of ps)) c.postings_at-postings.ensures got.none))
    h)

pub returns-then-first-kept : goal.returns-then-first-kept
returns-then-first-kept g c =
    let goods = g.S.GoodsSet.goods in
    let bundle = goods c.args.bid.now.bundle in
    let none = none_there c.args.goods.now bundle c.loop-good.good-index c.requires.goods (g.met.S.GoodsSet.is_bundle c.args.bid.now.bundle).0
    c.loop-good.auto.good-index-end c.loop-good-test.false in
    IsFirstSoFar-some (lists_of c.args.lists.now) (atoms_of goods c.args.kept.now) bundle c.args.bid.now.price _ c.loop-good.first
    c.requires.listed none c.loop-good.invariant (omega (arith, c.if-first-kept.true, length-atoms_of goods c.args.kept.now))

pub returns : goal.returns
returns g c =
    let goods = g.S.GoodsSet.goods in
    let bundle = goods c.args.bid.now.bundle in
    let none = none_there c.args.goods.now bundle c.loop-good.good-index c.requires.goods (g.met.S.GoodsSet.is_bundle c.args.bid.now.bundle).0
    c.loop-good.auto.good-index-end c.loop-good-test.false in
    IsFirstSoFar-all (lists_of c.args.lists.now) (atoms_of goods c.args.kept.now) bundle c.args.bid.now.price _ c.loop-good.first
    c.requires.listed none c.loop-good.invariant (omega (arith, c.if-first-kept.false, length-atoms_of goods c.args.kept.now))
