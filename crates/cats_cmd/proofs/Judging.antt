-- The file at one path: what reading its input says of it, in the words of the run.
use Rattle.cats_cmd.proofs.Common.{◌≡◌, ℕ, List, [], ◌∷◌, ◌++◌, Option, None, Some, refl, Global, Vec, PlainFile, IsPlainFile}
use Rattle.cats_cmd.proofs.Common.{PriceRule, SearchOptions, ReadFault, or_atoms_of, first_refused, RefusesAs, canonical_text, AddsText}
use Rattle.cats_cmd.proofs.Common.{IsText}
use Rattle.cats_cmd.proofs.Common.{normalised_file, refusal_of, CanonFault, Read, StepLimit, Memory, Only, Which}
use Rattle.cats_cmd.proofs.Common.{found_paths, HeavyBid, with_bid, IsPriced, PricedGives}
use Rattle.cats_cmd.proofs.Common.{PricedRefuses, AddsJudgement, AddsStream, AddsRefused, KeepsGroups, Judgement, IsHeavy, IsJudged, IsUnjudged}
use Rattle.cats_cmd.proofs.Common.{JudgesAs, JudgesPriced, JudgesStream, IsPublished, RunFault, append-nil, fault_text, faults_text, flat_map_more, ◌∙◌}
use Rattle.cats_cmd.proofs.Common.{JudgesInput, NotOpened, PricedInput, Refused, files_if_heavy, files_if_judged, heavy_files, heavy_paths}
use Rattle.cats_cmd.proofs.Common.{judged_files, judged_paths, paths_if_heavy, paths_if_judged, Groups, AreSameFiles, AreAlike, unsearched_text}
use Rattle.cats_cmd.proofs.Common.{unsearched_texts_tell, canonical_texts_tell, Unopened}
use Rattle.cats_text.specs.declared.read_fault.Kind.TheVariants.{Memory as NoMemory}
use Rattle.cats_cmd.proofs.Skipping.{groups_skip}
use Rattle.cats_cmd.proofs.FindingNumbers.{judgement_more, judgement_skipped, numbers_more}
use Rattle.commands.proofs.Judging.{heavy_bid, judged_heavy, judged_unmade, judged_unread}
use Rattle.canon.specs.Answers.{RefusesAuction}
use Rattle.valuation.specs.Auctions.{auction_from}
use Rattle.canon.specs.Normalising.{ExceedsSteps, IsNoFile, unless_refused}

-- ---- refused bundles, by what normalising a file gives

pub text_within_limit : (file : PlainFile) (heavy : Option (List ℕ)) (text : List ℕ) → unless_refused file heavy ≡ IsText text → heavy ≡ None
text_within_limit file None text is = refl
text_within_limit file (Some goods) text is = cc

pub no_fault_made : (file : PlainFile) (heavy : Option (List ℕ)) (why : ReadFault) → unless_refused file heavy ≡ IsNoFile why → ⊥
no_fault_made file None why is = cc
no_fault_made file (Some goods) why is = cc

pub refused_bundle : (file : PlainFile) (heavy : Option (List ℕ)) (goods : List ℕ) → unless_refused file heavy ≡ ExceedsSteps goods → heavy ≡ Some goods
refused_bundle file None goods is = cc
refused_bundle file (Some heavy) goods is = cc

pub refused_auction : (options : SearchOptions) (file : PlainFile) (fault : CanonFault) → RefusesAs (normalised_file options file) fault
    → RefusesAuction options (auction_from file) fault
refused_auction options file (Read why) refused = no_fault_made file (first_refused options file.goods (or_atoms_of file.bids)) why refused
refused_auction options file (StepLimit goods) refused = refused_bundle file (first_refused options file.goods (or_atoms_of file.bids)) goods.items refused
refused_auction options file Memory refused = tt

-- ---- one input

module _ {I : Type 0} (gives : I → I → PlainFile → Type 0) (refuses : I → I → ReadFault → Type 0) (options : SearchOptions) (old new : I) where
  -- ---- the groups of `cats duplicates`

  -- the file was judged
  pub groups_judged : (before after : Groups) (path : List ℕ) (copy : Vec ℕ Global) (number : ℕ) → copy.items ≡ path → after.heavy ≡ before.heavy
      → (file : PlainFile) → IsPlainFile file → gives old new file → AddsText before.judged.index after.judged.index (canonical_text file) number
      → normalised_file options file ≡ IsText (canonical_text file) → after.judged.found.items ≡ before.judged.found.items ++ (copy, number) ∷ []
      → AddsStream KeepsGroups (JudgesInput gives refuses options) path before after old new None
  groups_judged before after path copy number is kept file facts given added within put = record {
    judgement = IsJudged file;
    judges = record {
      given = given;
      within = text_within_limit file (first_refused options file.goods (or_atoms_of file.bids)) (canonical_text file) within;
    };
    adds = λ js h. record {
      judged = judgement_more canonical_text AreSameFiles files_if_judged paths_if_judged js path (IsJudged file) after.judged.index
          (found_paths after.judged.found.items)
          (numbers_more canonical_text AreSameFiles canonical_texts_tell before.judged.index after.judged.index before.judged.found.items
          after.judged.found.items path copy file number is facts added put (judged_paths js) (judged_files js) h.judged);
      heavy = rw kept (judgement_skipped unsearched_text AreAlike files_if_heavy paths_if_heavy js path (IsJudged file) before.heavy.index
          (found_paths before.heavy.found.items) refl refl h.heavy);
    };
    is_fault = refl;
  }

  -- no file was given
  pub groups_unread : (groups : Groups) (path : List ℕ) (why : ReadFault) → (why.kind ≡ NoMemory → why.line ≡ 0) → refuses old new why
      → AddsStream KeepsGroups (JudgesInput gives refuses options) path groups groups old new (Some (Refused Only (refusal_of why)))
  groups_unread groups path why no_line refused = record {
    judgement = IsUnjudged (Refused Only (refusal_of why));
    judges = judged_unread gives refuses options old new why no_line refused;
    adds = λ js h. groups_skip groups js path (Refused Only (refusal_of why)) h;
    is_fault = refl;
  }

  -- the file was refused
  pub groups_unmade : (before tried after : Groups) (path : List ℕ) → tried ≡ before → (file : PlainFile) → gives old new file → (fault : CanonFault)
      → RefusesAs (normalised_file options file) fault → AddsRefused path file fault tried after
      → AddsStream KeepsGroups (JudgesInput gives refuses options) path before after old new (Some (with_bid Only file options fault))
  groups_unmade before tried after path same file given (Read why) refused adds =
      absurd (no_fault_made file (first_refused options file.goods (or_atoms_of file.bids)) why refused)
  groups_unmade before tried after path same file given (StepLimit goods) refused adds = record {
    judgement = IsHeavy file (heavy_bid options file goods);
    judges = judged_heavy gives refuses options old new file given goods
        (refused_bundle file (first_refused options file.goods (or_atoms_of file.bids)) goods.items refused);
    adds = λ js h. adds (heavy_bid options file goods) js (rw same h);
    is_fault = refl;
  }
  groups_unmade before tried after path same file given Memory refused adds = record {
    judgement = IsUnjudged (Refused Only Memory);
    judges = judged_unmade gives refuses options old new file given;
    adds = λ js h. adds (Refused Only Memory) js (rw same h);
    is_fault = refl;
  }

-- a file that a step limit refused is with those that are alike
pub groups_heavy : (before after : Groups) (path : List ℕ) (copy : Vec ℕ Global) (number : ℕ) → copy.items ≡ path → after.judged ≡ before.judged
    → (file : PlainFile) → IsPlainFile file → AddsText before.heavy.index after.heavy.index (unsearched_text file) number
    → after.heavy.found.items ≡ before.heavy.found.items ++ (copy, number) ∷ []
    → (heavy : HeavyBid) → AddsJudgement KeepsGroups path (IsHeavy file heavy) before after
groups_heavy before after path copy number is kept file facts added put heavy js h = record {
  judged = rw kept (judgement_skipped canonical_text AreSameFiles files_if_judged paths_if_judged js path (IsHeavy file heavy) before.judged.index
      (found_paths before.judged.found.items) refl refl h.judged);
  heavy = judgement_more unsearched_text AreAlike files_if_heavy paths_if_heavy js path (IsHeavy file heavy) after.heavy.index
      (found_paths after.heavy.found.items)
      (numbers_more unsearched_text AreAlike unsearched_texts_tell before.heavy.index after.heavy.index before.heavy.found.items
      after.heavy.found.items path copy file number is facts added put (heavy_paths js) (heavy_files js) h.heavy);
}

-- ---- the text of `cats fault`

pub faults_more : (text more path : List ℕ) (j : Judgement) (js : List (List ℕ × Judgement)) → more ≡ text ++ fault_text path j → text ≡ faults_text js
    → more ≡ faults_text (js ++ (path, j) ∷ [])
faults_more text more path j js puts is = puts ∙ rw is (flat_map_more (λ (j : List ℕ × Judgement). fault_text j.0 j.1) [] js (path, j))

-- nothing is printed of a file
pub faults_kept : (text path : List ℕ) (j : Judgement) (js : List (List ℕ × Judgement)) → fault_text path j ≡ [] → text ≡ faults_text js
    → text ≡ faults_text (js ++ (path, j) ∷ [])
faults_kept text path j js nothing is = faults_more text text path j js (rw (nothing, append-nil text) refl) is

-- ---- the file at a path

pub adds_priced : {C F : Type 0} (Has : C → List (List ℕ × Judgement) → Type 0) (remaining : F → Option (List ℕ)) (options : SearchOptions) (path : List ℕ)
    (before after : C) (old new : PricedInput F) (fault : Option RunFault)
    → AddsStream Has (JudgesInput (PricedGives remaining) (PricedRefuses remaining) options) path before after old new fault
    → AddsStream Has (JudgesPriced remaining (Some options)) path before after old new fault
adds_priced Has remaining options path before after old new fault adds = record {
  judgement = adds.judgement;
  judges = adds.judges;
  adds = adds.adds;
  is_fault = adds.is_fault;
}

-- what was not published is judged as it is
pub priced_stream : {F : Type 0} (remaining : F → Option (List ℕ)) (options : Option SearchOptions) (old new : PricedInput F) (j : Judgement)
    → JudgesPriced remaining options old new j → JudgesStream remaining options old new j
priced_stream remaining None old new (IsPublished file publishing) judges = absurd judges
priced_stream remaining (Some options) old new (IsPublished file publishing) judges = absurd judges
priced_stream remaining options old new judgement judges = judges

pub stream_of_priced : {C F : Type 0} (Has : C → List (List ℕ × Judgement) → Type 0) (remaining : F → Option (List ℕ)) (options : Option SearchOptions)
    (path : List ℕ) (before after : C) (old new : PricedInput F) (fault : Option RunFault)
    → AddsStream Has (JudgesPriced remaining options) path before after old new fault
    → AddsStream Has (JudgesStream remaining options) path before after old new fault
stream_of_priced Has remaining options path before after old new fault adds = record {
  judgement = adds.judgement;
  judges = priced_stream remaining options old new adds.judgement adds.judges;
  adds = adds.adds;
  is_fault = adds.is_fault;
}

-- a file that was opened is not one that could not be
none_unopened : {F : Type 0} (remaining : F → Option (List ℕ)) (options : Option SearchOptions) (before after : PricedInput F) (which : Which) (why : Unopened)
    → JudgesStream remaining options before after (IsUnjudged (NotOpened which why)) → ⊥
none_unopened remaining None before after which why judges = judges
none_unopened remaining (Some options) before after which why judges = judges

module _ {F : Type 0} (may_open : List ℕ → F → Type 0) (may_refuse : List ℕ → Unopened → Type 0) (remaining : F → Option (List ℕ))
    (options : Option SearchOptions) (prices : Option PriceRule) (path : List ℕ) where
  pub opened_judges : (before after : PricedInput F) → IsPriced may_open prices path before → (j : Judgement) → JudgesStream remaining options before after j
      → JudgesAs may_open may_refuse remaining options prices path after.rounded j
  opened_judges before after opened (IsUnjudged (NotOpened which why)) judges = absurd (none_unopened remaining options before after which why judges)
  opened_judges before after opened judgement judges = record { before = before; after = after; opened = opened; judges = judges; count = refl }
