-- The names of the kinds of faults.
use Rattle.std.specs.Prelude.{ℕ, List, codes}
use Rattle.cats_text.specs.declared.read_fault.Kind.{Kind}
use Rattle.cats_text.specs.declared.read_fault.Kind.TheVariants.{Header, NotANumber, TooLarge, ExtraBid, BidNumber}
use Rattle.cats_text.specs.declared.read_fault.Kind.TheVariants.{RepeatedNumber, TooFine, GoodRange, RepeatedGood}
use Rattle.cats_text.specs.declared.read_fault.Kind.TheVariants.{TwoDummies, EmptyBundle, NoEnd, AfterEnd, Missing}
use Rattle.cats_text.specs.declared.read_fault.Kind.TheVariants.{TooLong}
use Rattle.cats_text.specs.declared.read_fault.Kind.TheVariants.{Device, Memory}

abbrev pub name_of_kind : Kind → List ℕ
name_of_kind Header = codes "Header"
name_of_kind NotANumber = codes "NotANumber"
name_of_kind TooLarge = codes "TooLarge"
name_of_kind ExtraBid = codes "ExtraBid"
name_of_kind BidNumber = codes "BidNumber"
name_of_kind RepeatedNumber = codes "RepeatedNumber"
name_of_kind TooFine = codes "TooFine"
name_of_kind GoodRange = codes "GoodRange"
name_of_kind RepeatedGood = codes "RepeatedGood"
name_of_kind TwoDummies = codes "TwoDummies"
name_of_kind EmptyBundle = codes "EmptyBundle"
name_of_kind NoEnd = codes "NoEnd"
name_of_kind AfterEnd = codes "AfterEnd"
name_of_kind Missing = codes "Missing"
name_of_kind TooLong = codes "TooLong"
name_of_kind Device = codes "Device"
name_of_kind Memory = codes "Memory"
