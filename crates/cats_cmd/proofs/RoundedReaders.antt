-- A reader of a text whose prices are rounded while it comes: one more piece, the end, and its faults.
use Rattle.cats_cmd.proofs.Common.{◌≡◌, ◌⊎◌, ◌≤◌, ℕ, Bool, true, false, List, [], ◌++◌, length, take, drop, filter, Option, Some, None, Result, Ok, Err}
use Rattle.cats_cmd.proofs.Common.{inl, inr, refl, sym, ap, ◌∙◌, subst, arith, ◌==◌, append_assoc, append-nil, length-append}
use Rattle.cats_cmd.proofs.Common.{filter-append, first_fault, fault_at}
use Rattle.cats_cmd.proofs.Common.{ReadFault, Kind, TooLong, PriceRule, RoundedCount, rounded_count, rounded_text, rounded_prices, plain_changes, WantsMemory}
use Rattle.cats_cmd.proofs.PricedInputs.{memory_on_no_line}
use Rattle.cats_text.proofs.Texts.MachineAnswers.{complete_fault_stays}
use Rattle.cats_text.specs.Faults.{complete_fault}
use Rattle.cats_text.specs.Fed.{Fed, fed_fault}
use Rattle.cats_text.specs.Reading.{FeedsAs, FeedsOn as FedOn}
use Rattle.cats_text.specs.declared.read_fault.Kind.TheVariants.{Memory as NoMemory}
use Rattle.cats_cmd.specs.Internal.Roundings.{EndsAs, FeedsOn, HasTaken, HasText, IsFaultOf, IsSound, IsWorking, PassesOn, has_taken_by, refusal_by}
use Rattle.cats_cmd.specs.Internal.Roundings.{refusal_of_reader, whole_count, whole_text}
use Rattle.cats_cmd.specs.PricedInputs.{both_counts, counted, none_rounded}
use Rattle.cats_cmd.specs.declared.rounded_reader.RoundedReader.{RoundedReader}
use Rattle.rounding.specs.Pieces.{IsRounding, RoundsAll, RoundsOn, prices_with, rounded_with}
use Rattle.rounding.specs.declared.rounder.Rounder.{Rounder}
use Rattle.rounding.specs.Texts.{PlainRoundedPrice}
use Rattle.rounding.specs.declared.text.RoundedText.{RoundedText}
use Rattle.std.specs.Option.{option_or}
use Rattle.std.specs.Prelude.{nat_le, is_some, if◌then◌else◌}
use Rattle.std.specs.Result.{result_err}
use Rattle.std.proofs.lemmas.List.{take-append-drop}
use Rattle.std.proofs.KnownBytes.{Consumes-nil}
use Rattle.cats_cmd.proofs.Common.{Watched, Consumes, MatchOption, both_ways, MAX_STREAM, inner_of, has_ended, has_failed, StopsReading, ReadsAll}
use Rattle.cats_cmd.specs.Internal.Roundings.{ReadsRounded}
use Rattle.cats_cmd.specs.PricedInputs.{RefusesRounded}

-- ---- counts

same_counts : (a b c d : ℕ) → a ≡ c → b ≡ d → counted a b ≡ counted c d
same_counts a b c d e f = ap (λ n. counted n b) e ∙ ap (counted c) f

rounded_count-append : (ps qs : List PlainRoundedPrice) → rounded_count (ps ++ qs) ≡ both_counts (rounded_count ps) (rounded_count qs)
rounded_count-append ps qs =
    same_counts _ _ _ _ (length-append ps qs)
    (ap length (filter-append (λ p. p.price == 0) ps qs) ∙ length-append (filter (λ p. p.price == 0) ps) (filter (λ p. p.price == 0) qs))

counts_assoc : (a b c : RoundedCount) → both_counts a (both_counts b c) ≡ both_counts (both_counts a b) c
counts_assoc a b c = same_counts _ _ _ _ (omega arith) (omega arith)

-- ---- faults of a reader

found_or_long : (text : List ℕ → List ℕ) (fault : ReadFault) (kind : Kind) → ((rest : List ℕ) → first_fault (text rest) ≡ Some fault)
    → IsFaultOf text (refusal_by kind fault)
found_or_long text fault TooLong found = inl refl
found_or_long text fault kind found = inr found

found_so_far : (bytes : List ℕ) (limit : ℕ) (fault : ReadFault) → complete_fault (take limit bytes) ≡ Some fault
    → IsFaultOf (λ rest. bytes ++ rest) (refusal_of_reader fault)
found_so_far bytes limit fault is =
    found_or_long (λ rest. bytes ++ rest) fault fault.kind
    (λ (rest : List ℕ).
    ap first_fault (ap (λ (t : List ℕ). t ++ rest) (sym (take-append-drop limit bytes)) ∙ append_assoc (take limit bytes) (drop limit bytes) rest)
    ∙ complete_fault_stays (take limit bytes) (drop limit bytes ++ rest) fault is)

some_injective : (e f : ReadFault) → Some e ≡ Some f → e ≡ f
some_injective e f q = cc

cut_or_long : (bytes : List ℕ) (limit : ℕ) (fault : ReadFault) (cut : Option ReadFault) → complete_fault (take limit bytes) ≡ cut
    → option_or cut (Some (fault_at 0 TooLong)) ≡ Some fault → IsFaultOf (λ rest. bytes ++ rest) (refusal_of_reader fault)
cut_or_long bytes limit fault None is long =
    subst (λ (f : ReadFault). IsFaultOf (λ rest. bytes ++ rest) (refusal_of_reader f)) (some_injective (fault_at 0 TooLong) fault long) (inl refl)
cut_or_long bytes limit fault (Some found) is same = found_so_far bytes limit fault (is ∙ same)

by_limit : (within : Bool) (bytes : List ℕ) (limit : ℕ) (fault : ReadFault)
    → (if within then complete_fault bytes else option_or (complete_fault (take limit bytes)) (Some (fault_at 0 TooLong))) ≡ Some fault
    → IsFaultOf (λ rest. bytes ++ rest) (refusal_of_reader fault)
by_limit true bytes limit fault is =
    found_or_long (λ rest. bytes ++ rest) fault fault.kind (λ (rest : List ℕ). complete_fault_stays bytes rest fault is)
by_limit false bytes limit fault is = cut_or_long bytes limit fault (complete_fault (take limit bytes)) refl is

fed_refusal : (bytes : List ℕ) (limit : ℕ) (fault : ReadFault) → (fed_fault limit bytes ≡ Some fault) ⊎ WantsMemory (take limit bytes) fault
    → IsFaultOf (λ rest. bytes ++ rest) (refusal_of_reader fault)
fed_refusal bytes limit fault (inl is) = by_limit (nat_le (length bytes) limit) bytes limit fault is
fed_refusal bytes limit fault (inr wants) =
    subst (λ (f : ReadFault). IsFaultOf (λ rest. bytes ++ rest) (refusal_of_reader f)) (sym wants.0) (inl refl)

pub feeding_goes_on : (old new : Fed) (piece : List ℕ) (answer : Result (Unit {0}) ReadFault) → old.failed ≡ None → FeedsAs old piece new answer
    → FedOn old piece new answer
feeding_goes_on old new piece answer works feeds =
    subst (λ (f : Option ReadFault). MatchOption f (FedOn old piece new answer) (λ (e : ReadFault). (new ≡ old) × (answer ≡ Err e))) works feeds

pub feeding_refused : (old new : Fed) (piece : List ℕ) (fault : ReadFault) → old.failed ≡ None → FeedsAs old piece new (Err fault)
    → IsFaultOf (λ rest. (old.bytes ++ piece) ++ rest) (refusal_of_reader fault)
feeding_refused old new piece fault works feeds =
    let fed : FedOn old piece new (Err fault) = feeding_goes_on old new piece (Err fault) works feeds in
    subst (λ (t : List ℕ). IsFaultOf (λ rest. t ++ rest) (refusal_of_reader fault)) fed.bytes (fed_refusal new.bytes new.limit fault fed.answer.0)

-- ---- one more piece

module _ {K : Type 0} (old mid : RoundedReader K) (piece : List ℕ) (from : RoundedText) (reader : mid.reader ≡ old.reader) (count : mid.count ≡ old.count)
    (no_text : from.text.items ≡ []) (no_prices : from.prices.items ≡ []) (rounds : RoundsOn old.rounder piece mid.rounder [] from mid.rounded) where
  text_ahead : (rest : List ℕ) → rounded_with old.rounder (piece ++ rest) ≡ mid.rounded.text.items ++ rounded_with mid.rounder rest
  text_ahead rest = ap (λ (t : List ℕ). t ++ rounded_with old.rounder (piece ++ rest)) (sym no_text) ∙ rounds.text rest

  prices_ahead : (rest : List ℕ) → prices_with old.rounder (piece ++ rest) ≡ plain_changes mid.rounded.prices.items ++ prices_with mid.rounder rest
  prices_ahead rest = ap (λ (ps : List _). plain_changes ps ++ prices_with old.rounder (piece ++ rest)) (sym no_prices) ∙ rounds.prices rest

  whole_ahead : (rest : List ℕ) → whole_text old (piece ++ rest) ≡ (mid.reader.bytes ++ mid.rounded.text.items) ++ rounded_with mid.rounder rest
  whole_ahead rest =
      ap (λ (t : List ℕ). old.reader.bytes ++ t) (text_ahead rest)
      ∙ sym (append_assoc old.reader.bytes mid.rounded.text.items (rounded_with mid.rounder rest))
      ∙ ap (λ (fed : Fed). (fed.bytes ++ mid.rounded.text.items) ++ rounded_with mid.rounder rest) (sym reader)

  count_ahead : (rest : List ℕ) → whole_count old (piece ++ rest)
      ≡ both_counts (both_counts mid.count (rounded_count (plain_changes mid.rounded.prices.items))) (rounded_count (prices_with mid.rounder rest))
  count_ahead rest =
      ap (λ (ps : List PlainRoundedPrice). both_counts old.count (rounded_count ps)) (prices_ahead rest)
      ∙ ap (both_counts old.count) (rounded_count-append (plain_changes mid.rounded.prices.items) (prices_with mid.rounder rest))
      ∙ counts_assoc old.count (rounded_count (plain_changes mid.rounded.prices.items)) (rounded_count (prices_with mid.rounder rest))
      ∙ ap (λ (c : RoundedCount). both_counts (both_counts c (rounded_count (plain_changes mid.rounded.prices.items)))
      (rounded_count (prices_with mid.rounder rest))) (sym count)

  pub piece_fed : (new : RoundedReader K) (answer : Result (Unit {0}) ReadFault) → PassesOn mid new answer → FeedsOn old piece new answer
  piece_fed new (Ok u) passes = record {
    works = record { rounder = subst IsRounding (sym passes.rounder) rounds.holds; reader = passes.reader };
    text = λ rest.
        whole_ahead rest
        ∙ ap (λ (r : Rounder). (mid.reader.bytes ++ mid.rounded.text.items) ++ rounded_with r rest) (sym passes.rounder)
        ∙ ap (λ (t : List ℕ). t ++ rounded_with new.rounder rest) (sym passes.bytes);
    count = λ rest.
        count_ahead rest
        ∙ ap (λ (r : Rounder). both_counts (both_counts mid.count (rounded_count (plain_changes mid.rounded.prices.items)))
        (rounded_count (prices_with r rest))) (sym passes.rounder)
        ∙ ap (λ (c : RoundedCount). both_counts c (rounded_count (prices_with new.rounder rest))) (sym passes.count);
  }
  piece_fed new (Err fault) (inl memory) = inl memory
  piece_fed new (Err fault) (inr found) = inr (λ rest. ap first_fault (whole_ahead rest) ∙ found (rounded_with mid.rounder rest))

-- ---- whether a fault was found

found : (fault : ReadFault) → Some fault ≡ None → ⊥
found fault q = cc

pub none_if : (fault : Option ReadFault) → is_some fault ≡ false → fault ≡ None
none_if None is = refl
none_if (Some fault) is = absurd (both_ways true is refl)

pub some_if : (fault : Option ReadFault) → is_some fault ≡ true → fault ≡ None → ⊥
some_if None is none = both_ways false refl is
some_if (Some fault) is none = found fault none

-- ---- all bytes so far

none_more : (ps : List PlainRoundedPrice) → rounded_count ps ≡ both_counts none_rounded (rounded_count ps)
none_more ps = same_counts _ _ _ _ (omega arith) (omega arith)

pub nothing_taken : {K : Type 0} (rule : PriceRule) (limit : ℕ) (r : RoundedReader K) → IsRounding r.rounder
    → r.reader ≡ record { limit = limit; bytes = []; failed = None } → r.count ≡ none_rounded
    → ((text : List ℕ) → rounded_with r.rounder text ≡ rounded_text rule text)
    → ((text : List ℕ) → prices_with r.rounder text ≡ rounded_prices rule text) → HasText rule [] r
nothing_taken rule limit r is reader count text prices = record {
  works = record { rounder = is; reader = ap (λ (fed : Fed). fed.failed) reader };
  text = λ rest. sym (text rest) ∙ ap (λ (fed : Fed). fed.bytes ++ rounded_with r.rounder rest) (sym reader);
  count = λ rest.
      ap rounded_count (sym (prices rest)) ∙ none_more (prices_with r.rounder rest)
      ∙ ap (λ (c : RoundedCount). both_counts c (rounded_count (prices_with r.rounder rest))) (sym count);
}

module _ (rule : PriceRule) (bytes : List ℕ) where
  sound_by : {K : Type 0} (r : RoundedReader K) (fault : Option ReadFault) → has_taken_by rule bytes fault r → fault ≡ None → IsWorking r
  sound_by r None has is = has.works
  sound_by r (Some fault) has is = absurd (found fault is)

  -- no fault was found by a reader that has none
  pub sound : {K : Type 0} (r : RoundedReader K) → HasTaken rule bytes r → IsSound r
  sound r has = sound_by r r.fault has

  more_bytes : (piece : List ℕ) (fault : ReadFault) → IsFaultOf (λ rest. rounded_text rule (bytes ++ rest)) fault
      → IsFaultOf (λ rest. rounded_text rule ((bytes ++ piece) ++ rest)) fault
  more_bytes piece fault (inl memory) = inl memory
  more_bytes piece fault (inr found) =
      inr (λ rest. ap (λ (t : List ℕ). first_fault (rounded_text rule t)) (append_assoc bytes piece rest) ∙ found (piece ++ rest))

  passed_by : {K : Type 0} (r : RoundedReader K) (piece : List ℕ) (fault : Option ReadFault) → (fault ≡ None → ⊥) → has_taken_by rule bytes fault r
      → has_taken_by rule (bytes ++ piece) fault r
  passed_by r piece None some has = absurd (some refl)
  passed_by r piece (Some fault) some has = more_bytes piece fault has

  -- a piece behind a fault
  pub piece_passed : {K : Type 0} (r : RoundedReader K) (piece : List ℕ) → (r.fault ≡ None → ⊥) → HasTaken rule bytes r → HasTaken rule (bytes ++ piece) r
  piece_passed r piece some has = passed_by r piece r.fault some has

  taken_by : {K : Type 0} (old mid new : RoundedReader K) (piece : List ℕ) (answer : Result (Unit {0}) ReadFault) → HasText rule bytes old
      → new.rounder ≡ mid.rounder → new.reader ≡ mid.reader → new.count ≡ mid.count → FeedsOn old piece mid answer
      → has_taken_by rule (bytes ++ piece) (result_err answer) new
  taken_by old mid new piece (Ok u) has rounder reader count feeds = record {
    works = record {
      rounder = subst IsRounding (sym rounder) feeds.works.rounder;
      reader = ap (λ (fed : Fed). fed.failed) reader ∙ feeds.works.reader;
    };
    text = λ rest.
        ap (rounded_text rule) (append_assoc bytes piece rest) ∙ has.text (piece ++ rest) ∙ feeds.text rest
        ∙ ap (λ (fed : Fed). fed.bytes ++ rounded_with mid.rounder rest) (sym reader)
        ∙ ap (λ (r : Rounder). new.reader.bytes ++ rounded_with r rest) (sym rounder);
    count = λ rest.
        ap (λ (t : List ℕ). rounded_count (rounded_prices rule t)) (append_assoc bytes piece rest) ∙ has.count (piece ++ rest) ∙ feeds.count rest
        ∙ ap (λ (c : RoundedCount). both_counts c (rounded_count (prices_with mid.rounder rest))) (sym count)
        ∙ ap (λ (r : Rounder). both_counts new.count (rounded_count (prices_with r rest))) (sym rounder);
  }
  taken_by old mid new piece (Err fault) has rounder reader count (inl memory) = inl memory
  taken_by old mid new piece (Err fault) has rounder reader count (inr found) =
      inr (λ rest. ap first_fault (ap (rounded_text rule) (append_assoc bytes piece rest) ∙ has.text (piece ++ rest)) ∙ found rest)

  -- one more piece
  pub piece_taken : {K : Type 0} (old mid new : RoundedReader K) (piece : List ℕ) (answer : Result (Unit {0}) ReadFault) → old.fault ≡ None
      → HasTaken rule bytes old → new.rounder ≡ mid.rounder → new.reader ≡ mid.reader → new.count ≡ mid.count → new.fault ≡ result_err answer
      → FeedsOn old piece mid answer → HasTaken rule (bytes ++ piece) new
  piece_taken old mid new piece answer none has rounder reader count fault feeds =
      let has_text : HasText rule bytes old = subst (λ (f : Option ReadFault). has_taken_by rule bytes f old) none has in
      subst (λ (f : Option ReadFault). has_taken_by rule (bytes ++ piece) f new) (sym fault)
      (taken_by old mid new piece answer has_text rounder reader count feeds)

  -- ---- the end

  pub ended_before : (fault : ReadFault) → IsFaultOf (λ rest. rounded_text rule (bytes ++ rest)) fault → EndsAs rule bytes (Err fault)
  ended_before fault (inl memory) = inl memory
  ended_before fault (inr found) = inr (ap (λ (t : List ℕ). first_fault (rounded_text rule t)) (sym (append-nil bytes)) ∙ found [])

  module _ {K : Type 0} (old mid : RoundedReader K) (from : RoundedText) (none : old.fault ≡ None) (has : HasTaken rule bytes old)
      (reader : mid.reader ≡ old.reader) (no_text : from.text.items ≡ []) (rounds : RoundsAll old.rounder from mid.rounded) where
    whole : HasText rule bytes old
    whole = subst (λ (f : Option ReadFault). has_taken_by rule bytes f old) none has

    text_is : rounded_text rule bytes ≡ mid.reader.bytes ++ mid.rounded.text.items
    text_is =
        ap (rounded_text rule) (sym (append-nil bytes)) ∙ whole.text []
        ∙ ap (λ (t : List ℕ). old.reader.bytes ++ t) (ap (λ (t : List ℕ). t ++ rounded_with old.rounder []) (sym no_text) ∙ rounds.text)
        ∙ ap (λ (fed : Fed). fed.bytes ++ mid.rounded.text.items) (sym reader)

    pub ended_refused : (new : RoundedReader K) (fault : ReadFault) → PassesOn mid new (Err fault) → EndsAs rule bytes (Err fault)
    ended_refused new fault (inl memory) = inl memory
    ended_refused new fault (inr found) =
        inr (ap first_fault (text_is ∙ sym (append-nil (mid.reader.bytes ++ mid.rounded.text.items))) ∙ found [])

-- ---- a stream

module _ {R : Type 0} (remaining : R → Option (List ℕ)) (rule : PriceRule) where
  -- so many bytes came, all of which were taken
  pub record HasRead {K : Type 0} (old new : Watched R) (count : ℕ) (r : RoundedReader K) : Type 0 where
    pub bytes : List ℕ
    pub came : Consumes (remaining (inner_of old)) (remaining (inner_of new)) bytes
    pub count_is : count ≡ length bytes
    pub within : count ≤ MAX_STREAM
    pub works : has_failed new ≡ false
    pub fresh : has_ended new ≡ false
    pub taken : HasTaken rule bytes r

  pub nothing_read : {K : Type 0} (old : Watched R) (r : RoundedReader K) → has_failed old ≡ false → has_ended old ≡ false → HasTaken rule [] r
      → HasRead old old 0 r
  nothing_read old r works fresh taken = record {
    bytes = [];
    came = Consumes-nil (remaining (inner_of old));
    count_is = refl;
    within = omega arith;
    works = works;
    fresh = fresh;
    taken = taken;
  }

  pub stream_ended : (old new : Watched R) (bytes : List ℕ) (answer : Result (Fed × RoundedCount) ReadFault) → ReadsAll remaining old new bytes
      → EndsAs rule bytes answer → ReadsRounded remaining rule old new answer
  stream_ended old new bytes (Ok read) all ends = record { bytes = bytes; all = all; ends = ends }
  stream_ended old new bytes (Err fault) all (inl memory) = inr (inr (record { is = memory; wants = inr (bytes, all) }))
  stream_ended old new bytes (Err fault) all (inr found) = inr (inl (record { bytes = bytes; all = all; first = found }))

-- ---- memory that is refused in a stream is on no line

pub rounded_memory_on_no_line : {R : Type 0} (remaining : R → Option (List ℕ)) (rule : PriceRule) (old new : Watched R) (fault : ReadFault)
    → RefusesRounded remaining rule old new fault → fault.kind ≡ NoMemory → fault.line ≡ 0
rounded_memory_on_no_line remaining rule old new fault (inl stops) is = absurd (subst (StopsReading remaining old new fault.line) is stops)
rounded_memory_on_no_line remaining rule old new fault (inr (inl has)) is =
    memory_on_no_line (rounded_text rule has.bytes) fault (inl has.first) is
rounded_memory_on_no_line remaining rule old new fault (inr (inr wants)) is = ap (λ (f : ReadFault). f.line) wants.is

none_part : {P : Type 0} (X : ReadFault → Type 0) (failed : Option ReadFault) → failed ≡ None → MatchOption failed P X → P
none_part X None none part = part
none_part X (Some fault) none part = absurd (found fault none)

pub finishing_memory_on_no_line : (X : ReadFault → Type 0) (fed : Fed) (fault : ReadFault) → fed.failed ≡ None
    → MatchOption fed.failed ((first_fault fed.bytes ≡ Some fault) ⊎ WantsMemory fed.bytes fault) X → fault.kind ≡ NoMemory → fault.line ≡ 0
finishing_memory_on_no_line X fed fault none why is = memory_on_no_line fed.bytes fault (none_part X fed.failed none why) is
