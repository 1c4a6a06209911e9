-- `packed_texts`
use Rattle.commands.proofs.Common.{refl}
use Rattle.commands.proofs.fault.worked.packed_texts.Goals as goal

pub returns : goal.returns
returns c = record {
  gzip = refl;
  bzip2 = refl;
  xz = refl;
  zstd = refl;
  zip = refl;
  tar = refl;
  mark = refl;
  wide = refl;
  wide_little = refl;
  wide_big = refl;
}
