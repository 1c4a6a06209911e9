-- The file at one path, in the table of groups: its row, and what is kept of it.
use Rattle.cats_cmd.proofs.Common.{◌≡◌, ℕ, List, [], ◌∷◌, ◌++◌, Option, None, Some, refl, sym, ap, ◌∙◌, PlainFile, SearchOptions, ReadFault, or_atoms_of}
use Rattle.cats_cmd.proofs.Common.{first_refused, RefusesAs, canonical_text, unsearched_text, AddsText, IsText, normalised_file, refusal_of, CanonFault, Read}
use Rattle.cats_cmd.proofs.Common.{StepLimit, Memory, Only, Refused, HeavyBid, with_bid, found_paths, Judgement, IsHeavy, IsJudged, IsUnjudged, JudgesInput}
use Rattle.cats_cmd.proofs.Common.{RunFault, fault_judged, TextIndex, option_map, JudgesPriced, JudgesStream, PricedInput, Attempt}
use Rattle.cats_cmd.proofs.Common.{AddsOpened, AllocError, Err, IfOk, Ok, PricedGives, PricedRefuses, PrintsOnly, Result}
use Rattle.cats_cmd.specs.declared.paths.Added.{Added}
use Rattle.cats_cmd.proofs.Judging.{no_fault_made, priced_stream, refused_bundle, text_within_limit}
use Rattle.cats_cmd.proofs.GroupTables.{among_more, file_more, group_table_more, other_kind}
use Rattle.cats_cmd.specs.DuplicatesTables.{FileGroup, MakesGroupTable, OfHeavy, OfJudged, group_of, group_row, groups_among, row_text, shown}
use Rattle.cats_cmd.specs.DuplicatesTables.{GroupKey}
use Rattle.cats_cmd.specs.Internal.GroupTables.{AddsRow, KeepsEntries, KeepsGroupTable, NotesFile, NotesRefused}
use Rattle.cats_cmd.specs.declared.duplicates.table.GroupTable.{GroupTable}
use Rattle.cats_cmd.specs.declared.paths.Ending.{Ending}
use Rattle.cats_text.specs.declared.read_fault.Kind.TheVariants.{Memory as NoMemory}
use Rattle.commands.proofs.Judging.{heavy_bid, judged_heavy, judged_unmade, judged_unread}
use Rattle.canon.specs.FirstNumbers.{IsEmptyIndex, text_number}
use Rattle.std.specs.Map.{lookup}
use Rattle.std.specs.Prelude.{bytes_eq, option_and_then, slice_get}

-- ---- no file

no_entries : (key : List ℕ → GroupKey) (index : TextIndex) (found : List (List ℕ × ℕ)) → IsEmptyIndex index → found ≡ [] → KeepsEntries key [] index found
no_entries key index found empty none = record {
  entries = λ text. rw (none_of text) refl;
  within = λ text number is. absurd (no_number (sym (none_of text) ∙ is));
  count = rw none empty.count;
}
  where
    none_of : (text : List ℕ) → text_number index text ≡ None
    none_of text = ap (lookup (bytes_eq text)) empty.texts

    no_number : {n : ℕ} → None ≡ Some n → ⊥
    no_number is = cc

pub keeps_none : (table : GroupTable) → IsEmptyIndex table.judged.index → table.judged.found.items ≡ [] → IsEmptyIndex table.heavy.index
    → table.heavy.found.items ≡ [] → table.count ≡ 0 → KeepsGroupTable table []
keeps_none table judged none heavy no_others count = record {
  judged = no_entries OfJudged table.judged.index (found_paths table.judged.found.items) judged (ap found_paths none);
  heavy = no_entries OfHeavy table.heavy.index (found_paths table.heavy.found.items) heavy (ap found_paths no_others);
  count = count;
}

-- ---- one more file

-- a file that was not read is in no group
pub table_skips : (table : GroupTable) (js : List (List ℕ × Judgement)) (path : List ℕ) (why : RunFault) → KeepsGroupTable table js
    → KeepsGroupTable table (js ++ (path, IsUnjudged why) ∷ [])
table_skips table js path why h =
    let is = among_more js path (IsUnjudged why) in record { judged = rw is h.judged; heavy = rw is h.heavy; count = rw is h.count }

pub row_is : (ending : Ending) (groups : List FileGroup) (path text : List ℕ) (j : Judgement) (entry : Option (List ℕ × ℕ)) (fault : Option RunFault)
    → text ≡ row_text ending entry path fault → entry ≡ option_map shown (group_of groups j) → fault ≡ fault_judged j → text ≡ group_row ending groups path j
row_is ending groups path text j entry fault is same why = is ∙ rw (same, why) refl

module _ (before after : GroupTable) (path : List ℕ) (file : PlainFile) (first : ℕ) where
  -- what is kept then, and the group of the file
  pub record KeepsMore (js : List (List ℕ × Judgement)) (j : Judgement) (found : List (List ℕ × ℕ)) : Type 0 where
    pub keeps : KeepsGroupTable after (js ++ (path, j) ∷ [])
    pub group : option_map shown (group_of (groups_among (js ++ (path, j) ∷ [])) j) ≡ slice_get found first

  pub judged_more : AddsText before.judged.index after.judged.index (canonical_text file) first
      → NotesFile path first before.count (found_paths before.judged.found.items) (found_paths after.judged.found.items) after.count
      → after.heavy ≡ before.heavy → (js : List (List ℕ × Judgement)) → KeepsGroupTable before js
      → KeepsMore js (IsJudged file) (found_paths after.judged.found.items)
  judged_more added notes kept js h =
      let more = file_more OfJudged (λ one other. refl) (groups_among js) before.judged.index after.judged.index (found_paths before.judged.found.items)
      (canonical_text file) path first h.judged added (found_paths after.judged.found.items) after.count (rw h.count at notes) in
      let is = among_more js path (IsJudged file) in
      record {
        keeps = record {
          judged = rw is more.keeps;
          heavy = rw (is, kept) (other_kind OfHeavy (groups_among js) before.heavy.index (found_paths before.heavy.found.items) path
              (OfJudged (canonical_text file)) (λ text. refl) h.heavy);
          count = rw is more.counted;
        };
        group = rw is more.row;
      }

  pub heavy_more : (heavy : HeavyBid) → AddsText before.heavy.index after.heavy.index (unsearched_text file) first
      → NotesFile path first before.count (found_paths before.heavy.found.items) (found_paths after.heavy.found.items) after.count
      → after.judged ≡ before.judged → (js : List (List ℕ × Judgement)) → KeepsGroupTable before js
      → KeepsMore js (IsHeavy file heavy) (found_paths after.heavy.found.items)
  heavy_more heavy added notes kept js h =
      let more = file_more OfHeavy (λ one other. refl) (groups_among js) before.heavy.index after.heavy.index (found_paths before.heavy.found.items)
      (unsearched_text file) path first h.heavy added (found_paths after.heavy.found.items) after.count (rw h.count at notes) in
      let is = among_more js path (IsHeavy file heavy) in
      record {
        keeps = record {
          judged = rw (is, kept) (other_kind OfJudged (groups_among js) before.judged.index (found_paths before.judged.found.items) path
              (OfHeavy (unsearched_text file)) (λ text. refl) h.judged);
          heavy = rw is more.keeps;
          count = rw is more.counted;
        };
        group = rw is more.row;
      }

-- ---- one input

module _ {I : Type 0} (gives : I → I → PlainFile → Type 0) (refuses : I → I → ReadFault → Type 0) (options : SearchOptions) (old new : I) (ending : Ending)
    (path text : List ℕ) where
  abbrev Adds : GroupTable → GroupTable → Option RunFault → Type 0
  Adds before after fault = AddsRow ending (JudgesInput gives refuses options) path before after old new fault text

  pub table_judged : (before after : GroupTable) (file : PlainFile) (first : ℕ) (entry : Option (List ℕ × ℕ)) → gives old new file
      → AddsText before.judged.index after.judged.index (canonical_text file) first → normalised_file options file ≡ IsText (canonical_text file)
      → NotesFile path first before.count (found_paths before.judged.found.items) (found_paths after.judged.found.items) after.count
      → after.heavy ≡ before.heavy → entry ≡ slice_get (found_paths after.judged.found.items) first → text ≡ row_text ending entry path None
      → Adds before after None
  table_judged before after file first entry given added within notes kept at is = record {
    judgement = IsJudged file;
    judges = record {
      given = given;
      within = text_within_limit file (first_refused options file.goods (or_atoms_of file.bids)) (canonical_text file) within;
    };
    adds = λ js h. (judged_more before after path file first added notes kept js h).keeps;
    is_fault = refl;
    row = λ js h. row_is ending (groups_among (js ++ (path, IsJudged file) ∷ [])) path text (IsJudged file) entry None is
        (at ∙ sym (judged_more before after path file first added notes kept js h).group) refl;
  }

  pub table_unread : (table : GroupTable) (why : ReadFault) → (why.kind ≡ NoMemory → why.line ≡ 0) → refuses old new why
      → text ≡ row_text ending None path (Some (Refused Only (refusal_of why))) → Adds table table (Some (Refused Only (refusal_of why)))
  table_unread table why no_line refused is = record {
    judgement = IsUnjudged (Refused Only (refusal_of why));
    judges = judged_unread gives refuses options old new why no_line refused;
    adds = λ js h. table_skips table js path (Refused Only (refusal_of why)) h;
    is_fault = refl;
    row = λ js h. row_is ending (groups_among (js ++ (path, IsUnjudged (Refused Only (refusal_of why))) ∷ [])) path text
        (IsUnjudged (Refused Only (refusal_of why))) None (Some (Refused Only (refusal_of why))) is refl refl;
  }

  -- the file was refused
  pub table_unmade : (before tried after : GroupTable) → tried ≡ before → (file : PlainFile) → gives old new file → (fault : CanonFault) (first : Option ℕ)
      (entry : Option (List ℕ × ℕ)) → RefusesAs (normalised_file options file) fault → NotesRefused path file fault tried after first
      → entry ≡ option_and_then (slice_get (found_paths after.heavy.found.items)) first
      → text ≡ row_text ending entry path (Some (with_bid Only file options fault)) → Adds before after (Some (with_bid Only file options fault))
  table_unmade before tried after same file given (Read why) first entry refused notes at is =
      absurd (no_fault_made file (first_refused options file.goods (or_atoms_of file.bids)) why refused)
  table_unmade before tried after same file given (StepLimit goods) first entry refused notes at is = record {
    judgement = IsHeavy file (heavy_bid options file goods);
    judges = judged_heavy gives refuses options old new file given goods
        (refused_bundle file (first_refused options file.goods (or_atoms_of file.bids)) goods.items refused);
    adds = λ js h. (kept js h).keeps;
    is_fault = refl;
    row = λ js h. row_is ending (groups_among (js ++ (path, IsHeavy file (heavy_bid options file goods)) ∷ [])) path text
        (IsHeavy file (heavy_bid options file goods)) entry (Some (with_bid Only file options (StepLimit goods))) is
        (at ∙ ap (option_and_then (slice_get (found_paths after.heavy.found.items))) notes.is ∙ sym (kept js h).group) refl;
  }
    where
      kept : (js : List (List ℕ × Judgement)) → KeepsGroupTable before js
          → KeepsMore before after path file notes.first js (IsHeavy file (heavy_bid options file goods)) (found_paths after.heavy.found.items)
      kept js h = rw same at (heavy_more tried after path file notes.first (heavy_bid options file goods) notes.notes.added notes.notes.notes notes.judged js
          (rw same h))
  table_unmade before tried after same file given Memory first entry refused notes at is = record {
    judgement = IsUnjudged (Refused Only Memory);
    judges = judged_unmade gives refuses options old new file given;
    adds = λ js h. table_skips after js path (Refused Only Memory) (rw (notes.0, same) h);
    is_fault = refl;
    row = λ js h. row_is ending (groups_among (js ++ (path, IsUnjudged (Refused Only Memory)) ∷ [])) path text (IsUnjudged (Refused Only Memory)) entry
        (Some (with_bid Only file options Memory)) is (at ∙ ap (option_and_then (slice_get (found_paths after.heavy.found.items))) notes.1) refl;
  }

pub adds_priced : {F : Type 0} (ending : Ending) (remaining : F → Option (List ℕ)) (options : SearchOptions) (path : List ℕ) (before after : GroupTable)
    (old new : PricedInput F) (fault : Option RunFault) (text : List ℕ)
    → AddsRow ending (JudgesInput (PricedGives remaining) (PricedRefuses remaining) options) path before after old new fault text
    → AddsRow ending (JudgesPriced remaining (Some options)) path before after old new fault text
adds_priced ending remaining options path before after old new fault text adds = record {
  judgement = adds.judgement;
  judges = adds.judges;
  adds = adds.adds;
  is_fault = adds.is_fault;
  row = adds.row;
}

-- its row is printed behind the others
pub opened_row : {F : Type 0} (ending : Ending) (remaining : F → Option (List ℕ)) (options : SearchOptions) (path : List ℕ) (before after : GroupTable)
    (old new : PricedInput F) (Wrote : List Attempt → Type 0) → Wrote [] → (result : Result Added AllocError)
    → IfOk result (λ added. AddsRow ending (JudgesPriced remaining (Some options)) path before after old new added.fault added.text.items)
    → IfOk result (λ added. AddsOpened KeepsGroupTable (PrintsOnly (MakesGroupTable ending)) Wrote (JudgesStream remaining (Some options)) path before after
    old new added.fault added.text.items)
opened_row ending remaining options path before after old new Wrote nothing (Err e) adds = adds
opened_row ending remaining options path before after old new Wrote nothing (Ok added) adds = record {
  stream = record {
    judgement = adds.judgement;
    judges = priced_stream remaining (Some options) old new adds.judgement adds.judges;
    adds = adds.adds;
    is_fault = adds.is_fault;
  };
  more = [];
  wrote = nothing;
  shows = λ js printed attempts has shows. group_table_more ending js path adds.judgement added.text.items printed attempts (adds.row js has) shows;
}
