-- The file of what the header lines said and the bids that were kept whole.
use Rattle.cats_text.proofs.Common.{◌≡◌, ◌<◌, ℕ, true, List, length, Option, Some, None, Result, Ok, Err, MatchOption, refl, sym, subst, inr, arith, length-map}
use Rattle.cats_text.proofs.Common.{lt-ltb, has_bid_line, PlainBid, PlainFile, IsPlainFile, BidFile, Fed, Spells, PackedAnswer, FinishAnswer, FinishesAs, whole}
use Rattle.cats_text.proofs.Common.{PartsAnswer, PartsAs, PackedAs, CheckAnswer, CheckedAs, Unpacks, ReadFault, Header, common_steps}

same_file : (g d : ℕ) (bids : List PlainBid) (f : PlainFile) → g ≡ f.goods → d ≡ f.dummy → bids ≡ f.bids → record { goods = g; dummy = d; bids = bids } ≡ f
same_file g d bids f a b c = rw (a, b, c) refl

module _ {K : Type 0} (bids : K → List PlainBid) where
  abbrev file_of : Header × K → PlainFile
  file_of parts = record { goods = parts.0.goods; dummy = parts.0.dummy; bids = bids parts.1 }

  not_err : {A : Type 0} (x : A) (e : ReadFault) → Ok x ≡ Err e → ⊥
  not_err x e q = cc

  by_failed : (failed : Option ReadFault) (bytes : List ℕ) (parts : Header × K)
      → MatchOption failed (PartsAnswer whole bids bytes (Ok parts)) (λ (e : ReadFault). Ok parts ≡ Err e)
      → IsPlainFile (file_of parts) × MatchOption failed (PackedAnswer bytes (Ok (file_of parts))) (λ (e : ReadFault). Ok (file_of parts) ≡ Err e)
  by_failed None bytes parts says = grind (arith, common_steps, same_file)
  by_failed (Some e) bytes parts q = absurd (not_err parts e q)

  -- it is a bid file, and what is answered of it
  pub parts_reported : (fed : Fed) (parts : Header × K) → PartsAs whole bids fed (Ok parts) → IsPlainFile (file_of parts) × PackedAs fed (Ok (file_of parts))
  parts_reported fed parts reported = by_failed fed.failed fed.bytes parts reported

-- ---- the header lines alone

module _ {K : Type 0} (keep : PlainBid → PlainBid) (bids : K → List PlainBid) where
  no_parts : (parts : Header × K) (e : ReadFault) → Ok parts ≡ Err e → ⊥
  no_parts parts e q = cc

  header_by : (failed : Option ReadFault) (bytes : List ℕ) (parts : Header × K)
      → MatchOption failed (PartsAnswer keep bids bytes (Ok parts)) (λ (e : ReadFault). Ok parts ≡ Err e)
      → MatchOption failed (CheckAnswer bytes (Ok parts.0)) (λ (e : ReadFault). Ok parts.0 ≡ Err e)
  header_by None bytes parts says = record { file = says.file; spells = says.spelled; sizes = says.sizes }
  header_by (Some e) bytes parts q = absurd (no_parts parts e q)

  pub header_reported : (fed : Fed) (parts : Header × K) → PartsAs keep bids fed (Ok parts) → CheckedAs fed (Ok parts.0)
  header_reported fed parts reported = header_by fed.failed fed.bytes parts reported

-- ---- the same file with a vector for each bid

-- a text that spells a file of some bids has a bid line
has_line : (bytes : List ℕ) (file : PlainFile) → Spells bytes file → 0 < length file.bids → has_bid_line bytes ≡ true
has_line bytes file spelled some = grind (arith, common_steps, length-map, lt-ltb)

-- what is answered of it
pub unpacked_reported : (bytes : List ℕ) (file : PlainFile) (answer : Result BidFile ReadFault) → Spells bytes file → Unpacks file answer
    → FinishAnswer bytes answer
unpacked_reported bytes file (Ok f) spelled is = subst (Spells bytes) (sym is) spelled
unpacked_reported bytes file (Err e) spelled refused = inr (refused.0, has_line bytes file spelled refused.1)

no_file : (file : PlainFile) (e : ReadFault) → Ok file ≡ Err e → ⊥
no_file file e q = cc

by_fed : (failed : Option ReadFault) (bytes : List ℕ) (file : PlainFile) (answer : Result BidFile ReadFault) → Unpacks file answer
    → MatchOption failed (PackedAnswer bytes (Ok file)) (λ (e : ReadFault). Ok file ≡ Err e)
    → MatchOption failed (FinishAnswer bytes answer) (λ (e : ReadFault). answer ≡ Err e)
by_fed None bytes file answer is spelled = unpacked_reported bytes file answer spelled is
by_fed (Some e) bytes file answer is q = absurd (no_file file e q)

pub unpacked_as : (fed : Fed) (file : PlainFile) (answer : Result BidFile ReadFault) → Unpacks file answer → PackedAs fed (Ok file) → FinishesAs fed answer
unpacked_as fed file answer is reported = by_fed fed.failed fed.bytes file answer is reported

abbrev no_packed : ReadFault → Result PlainFile ReadFault
no_packed e = Err e

abbrev no_whole : ReadFault → Result BidFile ReadFault
no_whole e = Err e

same_fault : (e f : ReadFault) → no_packed e ≡ no_packed f → no_whole e ≡ no_whole f
same_fault e f q = cc

by_fault : (failed : Option ReadFault) (bytes : List ℕ) (e : ReadFault)
    → MatchOption failed (PackedAnswer bytes (no_packed e)) (λ (f : ReadFault). no_packed e ≡ no_packed f)
    → MatchOption failed (FinishAnswer bytes (no_whole e)) (λ (f : ReadFault). no_whole e ≡ no_whole f)
by_fault None bytes e reported = reported
by_fault (Some f) bytes e q = same_fault e f q

-- a fault of the packed file is one of the file
pub fault_as : (fed : Fed) (e : ReadFault) → PackedAs fed (no_packed e) → FinishesAs fed (no_whole e)
fault_as fed e reported = by_fault fed.failed fed.bytes e reported
