-- The numbers in a row of `cats sizes`: how many bids have no dummy good, and which dummy goods the bids so far have.
use Rattle.commands.proofs.Common.{◌≡◌, ℕ, ◌+◌, ◌<◌, Bool, true, false, cond, List, [], ◌++◌, length, map, set, take, refl, arith, Option, Some}
use Rattle.commands.proofs.Common.{None, Global, is_none, ◌||◌, Vec, range_with_len, slice_get, length-filter_more, list_any_more, get_or_from_slice_get}
use Rattle.commands.proofs.Common.{slice_get_within, PlainBid, PlainFile, ReadFault, is_dummy, or_atoms_of, SearchOptions, first_refused, canonical_file}
use Rattle.commands.proofs.Common.{refusal_of, StepLimit, Memory, Only, RunFault, Refused, with_bid}
use Rattle.commands.proofs.Common.{IsJudged, IsHeavy, IsUnjudged}
use Rattle.commands.proofs.Common.{PutsNumbers, counts_of, has_dummy, sizes_of, with_tabs, codes, filter, append_assoc}
use Rattle.cats_text.specs.declared.read_fault.Kind.TheVariants.{Memory as NoMemory}
use Rattle.commands.proofs.Judging.{heavy_bid, judged_heavy, judged_unmade, judged_unread}
use Rattle.commands.proofs.ByNumber.{by_number-same, by_number-set}

-- ---- cells

-- the numbers of a bid file, put behind a text
pub sizes_put : (none sizes given text longer numbers : List ℕ) → none ≡ [] → sizes ≡ none ++ numbers → given ≡ sizes → longer ≡ text ++ given
    → longer ≡ text ++ numbers
sizes_put none sizes given text longer numbers empty is same put = rw (put, same, is, empty)

-- ---- the numbers of the file that an input gives

module _ {I : Type 0} (gives : I → I → PlainFile → Type 0) (refuses : I → I → ReadFault → Type 0) (options : SearchOptions) (before after : I)
    (text longer : List ℕ) where
  abbrev Puts : Option RunFault → Type 0
  Puts fault = PutsNumbers gives refuses options before after text longer fault

  -- no file was given
  pub numbers_unread : longer ≡ text ++ codes "\t\t\t\t\t\t\t\t" → (why : ReadFault) → (why.kind ≡ NoMemory → why.line ≡ 0)
      → refuses before after why → Puts (Some (Refused Only (refusal_of why)))
  numbers_unread put why no_line refused =
      let judges = judged_unread gives refuses options before after why no_line refused in
      record { judgement = IsUnjudged (Refused Only (refusal_of why)); judges = judges; puts = put; is_fault = refl }

  module _ (file : PlainFile) (given : gives before after file) where
    pub numbers_within : first_refused options file.goods (or_atoms_of file.bids) ≡ None
        → longer ≡ text ++ with_tabs (sizes_of file) ++ with_tabs (counts_of (canonical_file file)) → Puts None
    numbers_within within put =
        record { judgement = IsJudged file; judges = record { given = given; within = within }; puts = rw put (simp append_assoc); is_fault = refl }

    pub numbers_heavy : (goods : Vec ℕ Global) → first_refused options file.goods (or_atoms_of file.bids) ≡ Some goods.items
        → longer ≡ text ++ with_tabs (sizes_of file) ++ codes "\t\t\t" → (why : RunFault) → why ≡ with_bid Only file options (StepLimit goods)
        → Puts (Some why)
    numbers_heavy goods heavy put why is = record {
      judgement = IsHeavy file (heavy_bid options file goods);
      judges = judged_heavy gives refuses options before after file given goods heavy;
      puts = rw put (simp append_assoc);
      is_fault = cc;
    }

    pub numbers_unmade : longer ≡ text ++ codes "\t\t\t\t\t\t\t\t" → Puts (Some (Refused Only Memory))
    numbers_unmade put =
        let judges = judged_unmade gives refuses options before after file given in
        record { judgement = IsUnjudged (Refused Only Memory); judges = judges; puts = put; is_fault = refl }

-- ---- marks

-- one more bid
module _ (bids : List PlainBid) (i : ℕ) (b : PlainBid) (there : slice_get bids i ≡ Some b) where
  has_more : (d : ℕ) → has_dummy (take (i + 1) bids) d ≡ (has_dummy (take i bids) d || is_dummy d b.dummy)
  has_more d = rw (list_any_more (λ c. is_dummy d c.dummy) bids i b (slice_get_within bids i b there), get_or_from_slice_get bids i b b there)

  pub or_more : length (filter (λ c. is_none c.dummy) (take (i + 1) bids))
      ≡ length (filter (λ c. is_none c.dummy) (take i bids)) + cond (is_none b.dummy) 1 0
  or_more = rw (length-filter_more (λ c. is_none c.dummy) bids i b (slice_get_within bids i b there), get_or_from_slice_get bids i b b there)

  module _ (n : ℕ) (marks : List Bool) (h : marks ≡ map (has_dummy (take i bids)) (range_with_len 0 n)) where
    pub marks_same : b.dummy ≡ None → marks ≡ map (has_dummy (take (i + 1) bids)) (range_with_len 0 n)
    marks_same none = by_number-same (has_dummy (take i bids)) marks n h (has_dummy (take (i + 1) bids)) false (λ k. grind (arith, has_more k))

    pub marks_put : (e : ℕ) → b.dummy ≡ Some e → e < n → set marks e true ≡ map (has_dummy (take (i + 1) bids)) (range_with_len 0 n)
    marks_put e some below =
        by_number-set (has_dummy (take i bids)) marks n h (has_dummy (take (i + 1) bids)) false e below true (grind (arith, has_more e))
        (λ k differ. grind (arith, has_more k))
