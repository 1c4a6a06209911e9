-- `fine_price_read`
use Rattle.cats_cmd.proofs.Common.{codes, refl, inl, inr, arith, spells_from_no_fault}
use Rattle.std.specs.Fmt.{digits}
use Rattle.cats_cmd.proofs.worked.fine_price_read.Goals as goal

pub returns-clause-rounded : goal.returns-clause-rounded
unfolding digits
returns-clause-rounded c = record {
  bytes = codes "goods 1\nbids 1\ndummy 0\n0 0.0123456 0 #\n";
  all = record { consumes = refl; within = omega arith; ended = refl; at_end = refl; works = refl };
  spells = spells_from_no_fault (codes "goods 1\nbids 1\ndummy 0\n0 0.012346 0 #\n") refl;
  count = refl;
}

pub returns-clause-refused : goal.returns-clause-refused
unfolding digits
returns-clause-refused c = record {
  refuses = inr (inl (record {
    bytes = codes "goods 1\nbids 1\ndummy 0\n0 0.0123456 0 #\n";
    all = record { consumes = refl; within = omega arith; ended = refl; at_end = refl; works = refl };
    first = refl;
  }));
  count = refl;
}
