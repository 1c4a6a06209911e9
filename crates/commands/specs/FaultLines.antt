-- How faults are reported on standard error.
use Rattle.std.specs.Prelude.{ℕ, List, [], ◌++◌, length, take, codes, decimal, nat_lt, if◌then◌else◌}
use Rattle.cats_text.specs.declared.read_fault.Kind.{Kind}
use Rattle.cats_text.specs.declared.read_fault.Kind.TheVariants.{TooLong, Device, Memory as NoMemory}
use Rattle.cats_text.specs.declared.read_fault.ReadFault.{ReadFault}
use Rattle.canon.specs.declared.canon_fault.CanonFault.{CanonFault}
use Rattle.canon.specs.declared.canon_fault.CanonFault.TheVariants.{Read, StepLimit, Memory}
use Rattle.canon.specs.declared.which.Which.{Which}
use Rattle.canon.specs.declared.which.Which.TheVariants.{Only, First, Second, Both}
use Rattle.commands.specs.declared.faults.RunFault.{RunFault}
use Rattle.commands.specs.declared.faults.Unwritten.{Unwritten}
use Rattle.commands.specs.declared.faults.Unwritten.TheVariants.{Exists, NoSpace, NotAFolder}
use Rattle.commands.specs.declared.faults.Unwritten.TheVariants.{PermissionDenied as Denied, Other as OtherUnwritten}
use Rattle.commands.specs.declared.faults.RunFault.TheVariants.{NotOpened, Refused, TooHeavy, GoodRange, BidRange, Sent}
use Rattle.commands.specs.declared.faults.RunFault.TheVariants.{NotWritten}
use Rattle.commands.specs.declared.faults.Unopened.{Unopened}
use Rattle.commands.specs.declared.faults.Unopened.TheVariants.{NoSuchFile, PermissionDenied, IsFolder, NotAFile, Other}
use Rattle.commands.specs.declared.faults.HeavyBid.{HeavyBid}
use Rattle.commands.specs.declared.faults.Limit.{Limit}
use Rattle.commands.specs.declared.faults.Limit.TheVariants.{OfEach, OfAll}
use Rattle.commands.specs.KindNames.{name_of_kind}
use Rattle.commands.specs.Outputs.{bundle_text}

-- which of two files was refused
abbrev pub prefix_of : Which → List ℕ
prefix_of Only = []
prefix_of First = codes "first: "
prefix_of Second = codes "second: "
prefix_of Both = []

-- a fault of this kind in this line
abbrev pub text_of_kind : ℕ → Kind → List ℕ
text_of_kind line TooLong = name_of_kind TooLong
text_of_kind line Device = name_of_kind Device
text_of_kind line NoMemory = codes "want of memory"
text_of_kind line kind = codes "line " ++ decimal line ++ codes ": " ++ name_of_kind kind

abbrev pub text_of_read_fault : ReadFault → List ℕ
text_of_read_fault fault = text_of_kind fault.line fault.kind

abbrev pub text_of_canon_fault : CanonFault → List ℕ
text_of_canon_fault (Read fault) = text_of_read_fault fault
text_of_canon_fault (StepLimit goods) = codes "step limit at " ++ bundle_text goods.items
text_of_canon_fault Memory = codes "want of memory"

-- the limit of each search, or of all together
abbrev pub text_of_limit : Limit → List ℕ
text_of_limit (OfEach steps) = codes "step limit of " ++ decimal steps
text_of_limit (OfAll steps) = codes "total step limit of " ++ decimal steps

-- how many goods there are, if they are more than are reported
abbrev pub rest_text : ℕ → List ℕ
rest_text count = if nat_lt 20 count then codes ",.. (" ++ decimal count ++ codes " goods)" else []

-- the limit that is met, the number of the bid, and at most 20 goods of its bundle
abbrev pub text_of_heavy_bid : HeavyBid → List ℕ
text_of_heavy_bid heavy = text_of_limit heavy.limit ++ codes " at bid " ++ decimal heavy.number ++ codes ": "
    ++ bundle_text (take 20 heavy.goods.items) ++ rest_text (length heavy.goods.items)

abbrev pub text_of_unopened : Unopened → List ℕ
text_of_unopened NoSuchFile = codes "cannot open: no such file"
text_of_unopened PermissionDenied = codes "cannot open: permission denied"
text_of_unopened IsFolder = codes "cannot open: is a folder: name it to 'fault', 'duplicates' or 'sizes'"
text_of_unopened NotAFile = codes "cannot open: not a file"
text_of_unopened Other = codes "cannot open"

abbrev pub text_of_unwritten : Unwritten → List ℕ
text_of_unwritten Exists = codes "cannot write: it exists already"
text_of_unwritten Denied = codes "cannot write: permission denied"
text_of_unwritten NoSpace = codes "cannot write: no space"
text_of_unwritten NotAFolder = codes "cannot write: not a folder"
text_of_unwritten OtherUnwritten = codes "cannot write"

-- the line that reports a fault
abbrev pub line_of_fault : RunFault → List ℕ
line_of_fault (NotOpened which why) = prefix_of which ++ text_of_unopened why ++ codes "\n"
line_of_fault (Refused which fault) = prefix_of which ++ text_of_canon_fault fault ++ codes "\n"
line_of_fault (TooHeavy which heavy) = prefix_of which ++ text_of_heavy_bid heavy ++ codes "\n"
line_of_fault (GoodRange good) = codes "good " ++ decimal good ++ codes " out of range\n"
line_of_fault (BidRange bid) = codes "bid " ++ decimal bid ++ codes " out of range\n"
line_of_fault (Sent fault) = codes "output failed after " ++ decimal fault.written ++ codes " bytes\n"
line_of_fault (NotWritten why) = text_of_unwritten why ++ codes "\n"
