-- `texts_placed`
use Rattle.cats_cmd.proofs.Common.{refl, inl, inr, codes}
use Rattle.cats_cmd.proofs.worked.texts_placed.Goals as goal

pub returns-clause-same : goal.returns-clause-same
returns-clause-same c = record { above = codes "a"; path = codes "a"; has_first = refl; has_second = refl; two = λ e. cc; meet = inl refl }

pub returns-clause-folder : goal.returns-clause-folder
returns-clause-folder c = record {
  above = codes "a";
  path = codes "a/b";
  has_first = refl;
  has_second = refl;
  two = λ e. cc;
  meet = inr (codes "b", refl);
}
