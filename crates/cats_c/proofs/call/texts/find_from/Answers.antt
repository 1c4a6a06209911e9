-- `find_from`
use Rattle.std.proofs.Common.{◌∙◌, get_or, arith, sym}
use Rattle.std.proofs.lemmas.Option.{slice_get-get_or}
use Rattle.std.proofs.lemmas.Slice.Eq.{bytes_eq-Decides}
use Rattle.cats_c.proofs.Texts.{nobody}
use Rattle.cats_c.proofs.call.texts.find_from.Goals as goal

pub returns-then-is_named : goal.returns-then-is_named
returns-then-is_named c = record {
  text = get_or c.args.texts.now c.loop-number.number nobody;
  there = slice_get-get_or c.args.texts.now c.loop-number.number nobody (omega (arith, c.loop-number-test.true, c.loop-number.invariant));
  named = (bytes_eq-Decides c.args.name.now _).0 (sym c.is_named.ensures ∙ c.if-is_named.true);
}
