-- One more file is published: what is kept, its row behind the others, and its text.
use Rattle.cats_cmd.proofs.Common.{◌≡◌, ◌+◌, ℕ, Bool, true, false, List, [], ◌∷◌, ◌++◌, length, Option, Some, None, refl, sym, ap, ap₂, ◌∙◌, subst}
use Rattle.cats_cmd.proofs.Common.{inr}
use Rattle.cats_cmd.proofs.Common.{append-nil, append_assoc, flat_map-append, length-append, map-append, Attempt, Judgement, IsHeavy, IsJudged, IsPublished}
use Rattle.cats_cmd.proofs.Common.{AddsText, Global, IsFirstNumber, IsPlainFile, IsUnjudged, PlainFile, RunFault, Vec, canonical_text, files_if_judged}
use Rattle.cats_cmd.proofs.Common.{IsRead, JudgesStream, PricedGives, PricedInput, RoundedCount, SearchOptions, Unwritten, NotWritten, cells, codes, escaped}
use Rattle.cats_cmd.proofs.Common.{fault_cell, index_of_more, judged_files, judged_paths, option_map, paths_if_judged, paths_of}
use Rattle.cats_cmd.proofs.Common.{AddsOpened, AddsStream, CanonFault, Memory, Only, Read, Refused, StepLimit}
use Rattle.cats_cmd.specs.Internal.Publishing.{JudgesText, PlainRow, RefusesFor, WritesRow, folder_of, path_found, places_of, refused_row}
use Rattle.cats_cmd.specs.declared.publish.Published.{Published}
use Rattle.commands.proofs.Judging.{heavy_bid, judged_heavy}
use Rattle.commands.specs.Normalise.{with_bid}
use Rattle.std.specs.Prelude.{◌||◌}
use Rattle.std.proofs.lemmas.Bool.{true≢false}
use Rattle.cats_cmd.proofs.FirstAuctions.{HaveOneText, first_none, first_path}
use Rattle.canon.specs.Canonical.{canonical_file}
use Rattle.cats_cmd.specs.Internal.Publishing.{FindsFirst, JudgesFile, KeepsAuctions, KeepsPublished, PublishesFor, judged_row, read_row, row_at, row_line}
use Rattle.cats_cmd.specs.Internal.Publishing.{unread_row, with_file_counted}
use Rattle.cats_cmd.specs.Publishing.{AreForPublishing, IsForPublishing, Publishes, attempt_at, attempt_if, attempts_behind, is_wanted, publish_header}
use Rattle.cats_cmd.specs.Publishing.{publish_row, rows_behind, same_as, text_path}
use Rattle.cats_cmd.specs.TextPaths.{PlacedText}
use Rattle.cats_cmd.specs.declared.paths.ManyFiles.{ManyFiles}
use Rattle.cats_cmd.specs.declared.publish.Publisher.{Publisher}
use Rattle.commands.specs.Judgements.{Publishing}
use Rattle.commands.specs.Outputs.{number_cell}
use Rattle.std.specs.Prelude.{◌&&◌, if◌then◌else◌, is_none, slice_get, unwrap_or}

-- ---- rows

-- the cells, and the fault behind them
pub line_made : (a b c d e f g h fault : List ℕ) → let t : List ℕ = codes "\t" in
    ((((((((([] ++ (a ++ t)) ++ (b ++ t)) ++ (c ++ t)) ++ (d ++ t)) ++ (e ++ t)) ++ (f ++ t)) ++ (g ++ t)) ++ (h ++ t)) ++ fault) ++ 10 ∷ []
    ≡ cells (a ∷ b ∷ c ∷ d ∷ e ∷ f ∷ g ∷ h ∷ []) ++ fault ++ codes "\n"
line_made a b c d e f g h fault = simp (append_assoc, append-nil)

module _ (folder : List ℕ) (all : Bool) (places : List PlacedText) where
  rows_more : (before js : List (List ℕ × Judgement)) (j : List ℕ × Judgement) → rows_behind folder all places before (js ++ j ∷ [])
      ≡ rows_behind folder all places before js ++ publish_row folder all places (before ++ js) j.0 j.1
  rows_more before [] j = rw (append-nil before) (append-nil (publish_row folder all places before j.0 j.1))
  rows_more before (i ∷ js) j =
      rw (rows_more (before ++ i ∷ []) js j, append_assoc before (i ∷ []) js) (sym (append_assoc (publish_row folder all places before i.0 i.1)
      (rows_behind folder all places (before ++ i ∷ []) js)
      (publish_row folder all places (before ++ i ∷ js) j.0 j.1)))

  attempts_more : (before js : List (List ℕ × Judgement)) (j : List ℕ × Judgement) → attempts_behind folder all places before (js ++ j ∷ [])
      ≡ attempts_behind folder all places before js ++ attempt_if folder all places (before ++ js) j.1
  attempts_more before [] j = rw (append-nil before) (append-nil (attempt_if folder all places before j.1))
  attempts_more before (i ∷ js) j =
      rw (attempts_more (before ++ i ∷ []) js j, append_assoc before (i ∷ []) js) (sym (append_assoc (attempt_if folder all places before i.1)
      (attempts_behind folder all places (before ++ i ∷ []) js)
      (attempt_if folder all places (before ++ i ∷ js) j.1)))

  judged_more : (before js : List (List ℕ × Judgement)) (j : List ℕ × Judgement) → AreForPublishing folder all places before js
      → IsForPublishing folder all places (before ++ js) j.1 → AreForPublishing folder all places before (js ++ j ∷ [])
  judged_more before [] j h is = (rw (append-nil before) at is, tt)
  judged_more before (i ∷ js) j h is = (h.0, judged_more (before ++ i ∷ []) js j h.1 (rw (append_assoc before (i ∷ []) js) is))

  -- one more file
  pub published_more : (js : List (List ℕ × Judgement)) (path : List ℕ) (j : Judgement) (text printed : List ℕ) (more attempts : List Attempt)
      → text ≡ publish_row folder all places js path j → more ≡ attempt_if folder all places js j → IsForPublishing folder all places js j
      → Publishes folder all places js printed attempts
      → Publishes folder all places (js ++ (path, j) ∷ []) (printed ++ text) (attempts ++ more)
  published_more js path j text printed more attempts row attempt is h = record {
    judged = judged_more [] js (path, j) h.judged is;
    table = rw (row, h.table, rows_more [] js (path, j)) (append_assoc (publish_header folder all places) (rows_behind folder all places [] js)
        (publish_row folder all places js path j));
    texts = rw (attempt, h.texts) (sym (attempts_more [] js (path, j)));
  }

-- ---- what is kept

paths_and_files : (path : List ℕ) (j : Judgement) → length (paths_if_judged path j) ≡ length (files_if_judged j)
paths_and_files path (IsJudged file) = refl
paths_and_files path (IsHeavy file heavy) = refl
paths_and_files path (IsUnjudged fault) = refl
paths_and_files path (IsRead answer) = refl
paths_and_files path (IsPublished file publishing) = refl

pub as_many_paths : (js : List (List ℕ × Judgement)) → length (judged_paths js) ≡ length (judged_files js)
as_many_paths [] = refl
as_many_paths (j ∷ js) =
    length-append (paths_if_judged j.0 j.1) (judged_paths js) ∙ ap₂ (λ (n m : ℕ). n + m) (paths_and_files j.0 j.1) (as_many_paths js)
    ∙ sym (length-append (files_if_judged j.1) (judged_files js))

files_more : (js : List (List ℕ × Judgement)) (path : List ℕ) (j : Judgement) → judged_files (js ++ (path, j) ∷ []) ≡ judged_files js ++ files_if_judged j
files_more js path j = flat_map-append (λ (x : List ℕ × Judgement). files_if_judged x.1) js ((path, j) ∷ [])
    ∙ ap (λ (files : List PlainFile). judged_files js ++ files) (append-nil (files_if_judged j))

paths_more : (js : List (List ℕ × Judgement)) (path : List ℕ) (j : Judgement) → judged_paths (js ++ (path, j) ∷ []) ≡ judged_paths js ++ paths_if_judged path j
paths_more js path j = flat_map-append (λ (x : List ℕ × Judgement). paths_if_judged x.0 x.1) js ((path, j) ∷ [])
    ∙ ap (λ (paths : List (List ℕ)). judged_paths js ++ paths) (append-nil (paths_if_judged path j))

-- the file was not judged
pub keeps_skipped : (publisher : Publisher) (js : List (List ℕ × Judgement)) (path : List ℕ) (j : Judgement) → files_if_judged j ≡ []
    → paths_if_judged path j ≡ []
    → KeepsPublished publisher js → KeepsPublished (with_file_counted publisher) (js ++ (path, j) ∷ [])
keeps_skipped publisher js path j no_file no_path h = record {
  auctions = record {
    is_index = rw (files_more js path j, no_file, append-nil (judged_files js)) h.auctions.is_index;
    paths = rw (paths_more js path j, no_path, append-nil (judged_paths js)) h.auctions.paths;
  };
  count = ap (λ (n : ℕ). n + 1) h.count ∙ sym (length-append js ((path, j) ∷ []));
}

-- it was, and has the place behind the others
pub keeps_judged : (old new : Publisher) (js : List (List ℕ × Judgement)) (path : List ℕ) (copy : Vec ℕ Global) (file : PlainFile) (publishing : Publishing)
    (number : ℕ) → IsPlainFile file → AddsText old.index new.index (canonical_text file) number → new.judged.items ≡ old.judged.items ++ copy ∷ []
    → copy.items ≡ path → KeepsAuctions old js → KeepsAuctions new (js ++ (path, IsPublished file publishing) ∷ [])
keeps_judged old new js path copy file publishing number facts added put is h = record {
  is_index = rw (files_more js path (IsPublished file publishing))
      (index_of_more canonical_text old.index new.index number (judged_files js) file facts h.is_index added);
  paths = ap paths_of put ∙ map-append (λ (p : Vec ℕ Global). p.items) old.judged.items (copy ∷ [])
      ∙ ap₂ (λ (paths : List (List ℕ)) (p : List ℕ). paths ++ p ∷ []) h.paths is ∙ sym (paths_more js path (IsPublished file publishing));
}

pub finds_judged : (old : Publisher) (js : List (List ℕ × Judgement)) (file : PlainFile) (number : ℕ) (found : Option (List ℕ)) → KeepsAuctions old js
    → IsFirstNumber HaveOneText (judged_files js ++ file ∷ []) file number → found ≡ slice_get (paths_of old.judged.items) number → FindsFirst js file found
finds_judged old js file number found keeps first is =
    let there : slice_get (judged_paths js) number ≡ found = sym (is ∙ ap (λ (paths : List (List ℕ)). slice_get paths number) keeps.paths) in
    record {
      is = first_path (judged_files js) file number first (judged_paths js) (as_many_paths js) ∙ there;
      none = first_none (judged_files js) file number first (judged_paths js) (as_many_paths js) ∙ ap (λ (path : Option (List ℕ)). is_none path) there;
    }

-- ---- the row of a file that was judged

module _ (folder : List ℕ) (all : Bool) (places : List PlacedText) (js : List (List ℕ × Judgement)) (path : List ℕ) (file : PlainFile) (rounded : RoundedCount)
    (unwritten : Option Unwritten) where
  abbrev published : Publishing
  published = record { rounded = rounded.count; zeroed = rounded.zeroed; unwritten = unwritten }

  abbrev pub line_as : Bool → Option (List ℕ) → ℕ → ℕ → List ℕ
  line_as wanted found kept number = cells (escaped path ∷ (if wanted && is_none unwritten then escaped (text_path places number) else [])
      ∷ escaped (unwrap_or found []) ∷ number_cell (Some file.goods) ∷ number_cell (Some (length file.bids)) ∷ number_cell (Some kept)
      ∷ number_cell (Some rounded.count) ∷ number_cell (Some rounded.zeroed) ∷ []) ++ fault_cell (option_map NotWritten unwritten) ++ codes "\n"

  same_line : (w v : Bool) (f g : Option (List ℕ)) (k l n m : ℕ) → w ≡ v → f ≡ g → k ≡ l → n ≡ m → line_as w f k n ≡ line_as v g l m
  same_line w v f g k l n m a b c d = rw (a, b, c, d) refl

  pub row_is : (wanted : Bool) (found : Option (List ℕ)) (kept number : ℕ) → is_wanted folder all places js file ≡ wanted → same_as js file ≡ found
      → kept ≡ length (canonical_file file).bids → number ≡ length js
      → line_as wanted found kept number ≡ publish_row folder all places js path (IsPublished file published)
  row_is wanted found kept number w f k n =
      same_line wanted (is_wanted folder all places js file) found (same_as js file) kept (length (canonical_file file).bids) number (length js)
      (sym w) (sym f) k n

  pub attempt_is : (wanted : Bool) (number : ℕ) → is_wanted folder all places js file ≡ wanted → number ≡ length js
      → (if wanted then attempt_at folder places number (canonical_text file) unwritten ∷ [] else []) ≡ attempt_if folder all places js
      (IsPublished file published)
  attempt_is wanted number w n =
      ap₂ (λ (w : Bool) (n : ℕ). if w then attempt_at folder places n (canonical_text file) unwritten ∷ [] else []) (sym w) n

-- the row of a text that is to be written
pub wanted_line : (places : List PlacedText) (path : List ℕ) (file : PlainFile) (rounded : RoundedCount) (found : Option (List ℕ)) (kept number : ℕ)
    (unwritten : Option Unwritten)
    → row_line (row_at (judged_row (read_row path file rounded) kept (unwrap_or found [])) (text_path places number) unwritten)
    (option_map NotWritten unwritten)
    ≡ line_as [] true places [] path file rounded unwritten true found kept number
wanted_line places path file rounded found kept number None = refl
wanted_line places path file rounded found kept number (Some why) = refl

-- ---- what becomes of one more file

none_found : (found : Option (Vec ℕ Global)) → is_none (option_map (λ p. p.items) found) ≡ is_none found
none_found None = refl
none_found (Some path) = refl

module _ (many : ManyFiles) (Wrote : List Attempt → Type 0) (path : List ℕ) (old new : Publisher) (file : PlainFile) (rounded : RoundedCount) (row : PlainRow)
    (is_row : row ≡ read_row path file rounded) where
  abbrev folder : List ℕ
  folder = folder_of many.target

  abbrev places : List PlacedText
  places = places_of many.target

  -- one more file that was read
  abbrev pub AddsRead : Option RunFault → List ℕ → Type 0
  AddsRead fault text = AddsOpened KeepsPublished (PublishesFor many) Wrote (λ f same. JudgesFile many.options f rounded) path old new file file fault text

  module _ (published : Published) (j : JudgesText many.options row.path file (with_file_counted old) new published) (judged : PlainRow)
      (is_judged : judged ≡ judged_row row published.kept (unwrap_or (path_found published) [])) where
    abbrev judgement : Option Unwritten → Judgement
    judgement unwritten = IsPublished file (record { rounded = rounded.count; zeroed = rounded.zeroed; unwritten = unwritten })

    kept : (js : List (List ℕ × Judgement)) → KeepsPublished old js → KeepsAuctions (with_file_counted old) js
    kept js h = record { is_index = h.auctions.is_index; paths = h.auctions.paths }

    judged_path : row.path ≡ path
    judged_path = ap (λ (r : PlainRow). r.path) is_row

    abbrev stream : (unwritten : Option Unwritten) → AddsStream KeepsPublished (λ f same. JudgesFile many.options f rounded) path old new file file
        (option_map NotWritten unwritten)
    stream unwritten = record {
      judgement = judgement unwritten;
      judges = (refl, j.within, refl, refl);
      adds = λ js h. record {
        auctions = subst (λ (p : List ℕ). KeepsAuctions new (js ++ (p, judgement unwritten) ∷ [])) judged_path
            (j.keeps js (record { rounded = rounded.count; zeroed = rounded.zeroed; unwritten = unwritten }) (kept js h));
        count = j.count ∙ ap (λ (n : ℕ). n + 1) h.count ∙ sym (length-append js ((path, judgement unwritten) ∷ []));
      };
      is_fault = refl;
    }

    judged_is : judged ≡ judged_row (read_row path file rounded) published.kept (unwrap_or (path_found published) [])
    judged_is = is_judged ∙ ap (λ (r : PlainRow). judged_row r published.kept (unwrap_or (path_found published) [])) is_row

    wanted_is : (js : List (List ℕ × Judgement)) → KeepsPublished old js → (wanted : Bool) → (many.all || is_none published.same_as) ≡ wanted
        → is_wanted folder many.all places js file ≡ wanted
    wanted_is js h wanted is =
        ap (λ (none : Bool). many.all || none) ((j.finds js (kept js h)).none ∙ none_found published.same_as) ∙ is

    -- its text is not wanted
    pub unwanted_added : (many.all || is_none published.same_as) ≡ false → (text : List ℕ) → text ≡ row_line judged None → Wrote [] → AddsRead None text
    unwanted_added unwanted text line wrote = record {
      stream = stream None;
      more = [];
      wrote = wrote;
      shows = λ js printed attempts has shows.
          let finds = j.finds js (kept js has) in
          let wanted = wanted_is js has false unwanted in
          published_more folder many.all places js path (judgement None) text printed [] attempts
          (line ∙ ap (λ (r : PlainRow). row_line r None) judged_is
          ∙ row_is folder many.all places js path file rounded None false (path_found published) published.kept (length js) wanted finds.is j.kept refl)
          (attempt_is folder many.all places js path file rounded None false (length js) wanted refl) (λ _. refl) shows;
    }

    -- it is wanted
    pub wanted_added : (many.all || is_none published.same_as) ≡ true → (fault : Option RunFault) (text line : List ℕ) → text ≡ canonical_text file
        → WritesRow Wrote many old.count judged text fault line → AddsRead fault line
    wanted_added wanted fault text line is_text w = rw w.is_fault (record {
      stream = stream w.unwritten;
      more = attempt_at folder places old.count text w.unwritten ∷ [];
      wrote = w.wrote;
      shows = λ js printed attempts has shows.
          let finds = j.finds js (kept js has) in
          let is = wanted_is js has true wanted in
          published_more folder many.all places js path (judgement w.unwritten) line printed (attempt_at folder places old.count text w.unwritten ∷ []) attempts
          (w.is_line ∙ ap₂ (λ (r : PlainRow) (f : Option RunFault). row_line (row_at r (text_path places old.count) w.unwritten) f) judged_is w.is_fault
          ∙ wanted_line places path file rounded (path_found published) published.kept old.count w.unwritten
          ∙ row_is folder many.all places js path file rounded w.unwritten true (path_found published) published.kept old.count is finds.is j.kept has.count)
          (ap (λ (t : List ℕ). attempt_at folder places old.count t w.unwritten ∷ []) is_text
          ∙ attempt_is folder many.all places js path file rounded w.unwritten true old.count is has.count)
          (λ unwanted. absurd (true≢false (sym is ∙ unwanted))) shows;
    })

  -- it is refused
  pub refused_added : (fault : CanonFault) → (new ≡ with_file_counted old) × RefusesFor many.options file fault → (text : List ℕ)
      → text ≡ row_line (refused_row row fault) (Some (with_bid Only file many.options fault)) → Wrote []
      → AddsRead (Some (with_bid Only file many.options fault)) text
  refused_added (Read why) refused text line wrote = absurd refused.1
  refused_added (StepLimit goods) refused text line wrote = record {
    stream = record {
      judgement = IsHeavy file (heavy_bid many.options file goods);
      judges = judged_heavy {I = ℕ} (λ _ _ f. f ≡ file) (λ _ _ _. ⊥) many.options 0 0 file refl goods refused.1;
      adds = λ js h. rw refused.0 (keeps_skipped old js path (IsHeavy file (heavy_bid many.options file goods)) refl refl h);
      is_fault = refl;
    };
    more = [];
    wrote = wrote;
    shows = λ js printed attempts has shows.
        published_more folder many.all places js path (IsHeavy file (heavy_bid many.options file goods)) text printed [] attempts
        (line ∙ ap (λ (r : PlainRow). row_line (refused_row r (StepLimit goods)) (Some (with_bid Only file many.options (StepLimit goods)))) is_row) refl tt
        shows;
  }
  refused_added Memory refused text line wrote = record {
    stream = record {
      judgement = IsUnjudged (Refused Only Memory);
      judges = refl;
      adds = λ js h. rw refused.0 (keeps_skipped old js path (IsUnjudged (Refused Only Memory)) refl refl h);
      is_fault = refl;
    };
    more = [];
    wrote = wrote;
    shows = λ js printed attempts has shows.
        published_more folder many.all places js path (IsUnjudged (Refused Only Memory)) text printed [] attempts
        (line ∙ ap (λ (r : PlainRow). row_line (refused_row r Memory) (Some (Refused Only Memory))) is_row) refl tt shows;
  }

-- ---- the stream

-- what became of the file that a stream gave became of the stream
pub stream_of_file : {F : Type 0} (remaining : F → Option (List ℕ)) (options : SearchOptions) (old new : PricedInput F) (file : PlainFile)
    → PricedGives remaining old new file → (j : Judgement) → JudgesFile options file new.rounded j → JudgesStream remaining (Some options) old new j
stream_of_file remaining options old new file given (IsPublished published publishing) h =
    (record { given = rw h.0 given; within = rw h.0 h.1 }, h.2, h.3)
stream_of_file remaining options old new file given (IsHeavy refused heavy) h = (rw h.0 given, rw h.0 h.1)
stream_of_file remaining options old new file given (IsUnjudged fault) h = rw h (refl, inr (record { file = file; given = given }))
stream_of_file remaining options old new file given judgement h = absurd h

pub read_row_made : (u : PlainRow) (path : List ℕ) (file : PlainFile) (rounded : RoundedCount) (goods bids : ℕ) → u ≡ unread_row path → goods ≡ file.goods
    → bids ≡ length file.bids
    → record {
      path = u.path;
      text = u.text;
      same_as = u.same_as;
      goods = Some goods;
      bids = Some bids;
      kept = u.kept;
      rounded = Some rounded.count;
      zeroed = Some rounded.zeroed;
    } ≡ read_row path file rounded
read_row_made u path file rounded goods bids unread g b = rw (unread, g, b) refl

pub opened_of_file : {F : Type 0} (remaining : F → Option (List ℕ)) (many : ManyFiles) (Wrote : List Attempt → Type 0) (path : List ℕ) (old new : Publisher)
    (before after : PricedInput F) (file : PlainFile) (rounded : RoundedCount) → PricedGives remaining before after file → rounded ≡ after.rounded
    → (fault : Option RunFault) (text : List ℕ)
    → AddsOpened KeepsPublished (PublishesFor many) Wrote (λ f same. JudgesFile many.options f rounded) path old new file file fault text
    → AddsOpened KeepsPublished (PublishesFor many) Wrote (JudgesStream remaining (Some many.options)) path old new before after fault text
opened_of_file remaining many Wrote path old new before after file rounded given is fault text a = record {
  stream = record {
    judgement = a.stream.judgement;
    judges = stream_of_file remaining many.options before after file given a.stream.judgement (rw is at a.stream.judges);
    adds = a.stream.adds;
    is_fault = a.stream.is_fault;
  };
  more = a.more;
  wrote = a.wrote;
  shows = a.shows;
}
