-- What became of a file, by what reading it and making its canonical file answer.
use Rattle.commands.proofs.Common.{◌≡◌, ℕ, Some, Global, Vec, refl, ap, ap₂, subst, inl, inr, PlainFile, Kind, ReadFault, fault_at, or_atoms_of}
use Rattle.commands.proofs.Common.{SearchOptions, first_refused, refusal_by_kind, refusal_of, Memory, Only, HeavyBid, Refused, first_bid_on, exceeds_at}
use Rattle.commands.proofs.Common.{limit_met, text_unless_refused, canonical_text, Judgement, IsHeavy, IsUnjudged, JudgesInput}
use Rattle.cats_text.specs.declared.read_fault.Kind.TheVariants.{Memory as NoMemory}

-- the bid that is named for the bundle of these goods
abbrev pub heavy_bid : SearchOptions → PlainFile → Vec ℕ Global → HeavyBid
heavy_bid options file goods = record { number = first_bid_on file goods.items; goods = goods; limit = limit_met options file goods.items }

module _ {I : Type 0} (gives : I → I → PlainFile → Type 0) (refuses : I → I → ReadFault → Type 0) (options : SearchOptions) (before after : I) where
  abbrev Judged : Judgement → Type 0
  Judged judgement = JudgesInput gives refuses options before after judgement

  unread_by_kind : (why : ReadFault) (kind : Kind) → why.kind ≡ kind → (why.kind ≡ NoMemory → why.line ≡ 0) → refuses before after why
      → Judged (IsUnjudged (Refused Only (refusal_by_kind why kind)))
  unread_by_kind why NoMemory is no_line refused =
      (refl, inl (subst (refuses before after) (ap₂ (λ (line : ℕ) (kind : Kind). fault_at line kind) (no_line is) is) refused))
  unread_by_kind why kind is no_line refused = (refl, ((λ memory. cc), refused))

  -- no file was given. Want of memory is on no line
  pub judged_unread : (why : ReadFault) → (why.kind ≡ NoMemory → why.line ≡ 0) → refuses before after why
      → Judged (IsUnjudged (Refused Only (refusal_of why)))
  judged_unread why no_line refused = unread_by_kind why why.kind refl no_line refused

  module _ (file : PlainFile) (given : gives before after file) where
    pub judged_heavy : (goods : Vec ℕ Global) → first_refused options file.goods (or_atoms_of file.bids) ≡ Some goods.items
        → Judged (IsHeavy file (heavy_bid options file goods))
    judged_heavy goods heavy = (given, ap (text_unless_refused (exceeds_at options file) (canonical_text file)) heavy)

    pub judged_unmade : Judged (IsUnjudged (Refused Only Memory))
    judged_unmade = (refl, inr (record { file = file; given = given }))
