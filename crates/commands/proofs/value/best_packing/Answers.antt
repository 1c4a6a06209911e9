-- `best_packing`
use Rattle.commands.proofs.Common.{◌≡◌, ◌≤◌, ℕ, List, false, refl, All-weaker, MAX_GOODS, AreBelow-higher, Atom, IsAtom, le-ltb}
use Rattle.valuation.specs.Packings.{count_packings}
use Rattle.valuation.specs.ValueLimits.{most_value_steps}
use Rattle.valuation.specs.declared.search.kind.SearchKind.{SearchKind}
use Rattle.valuation.specs.declared.search.kind.SearchKind.TheVariants.{Plain, Bounded}
use Rattle.std.specs.Prelude.{nat_lt}
use Rattle.commands.specs.Value.{refuses_by}
use Rattle.commands.proofs.value.best_packing.Goals as goal

pub or_value_by-requires : goal.or_value_by-requires
or_value_by-requires g c =
    let facts = c.args.auction.now.facts in
    rw c.or_atoms.ensures (All-weaker (IsAtom c.args.auction.now.goods) (IsAtom MAX_GOODS)
    (λ a h. record {
      nonempty = h.nonempty;
      bundle = (h.bundle.0, AreBelow-higher c.args.auction.now.goods MAX_GOODS a.bundle facts.goods h.bundle.1);
      price = h.price;
    }) _ facts.or_atoms)

within : (kind : SearchKind) (limit : ℕ) (atoms : List (Atom (List ℕ))) (bundle : List ℕ) → (kind ≡ Plain → count_packings atoms bundle ≤ limit)
    → refuses_by kind false (nat_lt limit (most_value_steps kind atoms bundle)) ≡ false
unfolding most_value_steps
within Plain limit atoms bundle few = le-ltb limit (count_packings atoms bundle) (few refl)
within Bounded limit atoms bundle few = refl

pub returns-in-Ok : goal.returns-in-Ok
returns-in-Ok g c =
    let same = c.or_atoms.ensures in
    record {
      value = rw same at c.in-Ok.ensures.value;
      members = rw same at c.in-Ok.ensures.members;
      within = within c.args.options.kind _ _ _ (rw same at c.in-Ok.ensures.within);
    }
