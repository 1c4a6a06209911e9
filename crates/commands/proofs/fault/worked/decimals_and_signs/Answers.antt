-- `decimals_and_signs`
use Rattle.commands.proofs.Common.{refl}
use Rattle.commands.proofs.fault.worked.decimals_and_signs.Goals as goal

pub returns : goal.returns
returns c = record {
  header_decimal = refl;
  exponent = refl;
  point = refl;
  decimal_good = refl;
  header_sign = refl;
  sign = refl;
  minus_one = refl;
  signed_good = refl;
  currency = refl;
  currency_behind = refl;
  bracket = refl;
  bracket_behind = refl;
}
