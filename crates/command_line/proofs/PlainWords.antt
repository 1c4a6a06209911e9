-- Words that do not begin with a hyphen are taken as they are after `--`: the walk over a line without `--` before its last words goes in step
-- with the walk over the line that has it.
use Rattle.command_line.proofs.Common.{◌≡◌, ◌∙◌, ◌++◌, ℕ, Bool, List, [], ◌∷◌, Option, None, Some, true, false, ap, ap₂, refl, subst, sym, ◌||◌, fold}
use Rattle.command_line.proofs.Common.{if◌then◌else◌, bytes_eq, step_fault, turn_fault, word_fault, Kinds, or_else, long_of, short_of, Shape, Held, Rule, Text}
use Rattle.command_line.proofs.Common.{Waiting, Walk, idle, option, positional, value, arg_by_index, is_multiple, next_position, positional_held, to_positional}
use Rattle.command_line.proofs.Common.{word_met, begins_with_hyphen}
use Rattle.clap.specs.Faults.{walk_fault}
use Rattle.clap.specs.Walk.{walked}

abbrev pub hyphens : Text
hyphens = 45 ∷ 45 ∷ []

-- no flag, and not `--`
record NoFlag (word : Text) : Type 0 where
  long : long_of word ≡ None
  short : short_of word ≡ None
  other : bytes_eq word hyphens ≡ false

no_flag : (word : Text) → begins_with_hyphen word ≡ false → NoFlag word
no_flag [] plain = record { long = refl; short = refl; other = refl }
no_flag (b ∷ rest) plain = record { long = simp plain refl; short = simp plain refl; other = simp plain refl }

abbrev pub ArePlain : List Text → Type 0
ArePlain [] = Unit {0}
ArePlain (word ∷ words) = (begins_with_hyphen word ≡ false) × ArePlain words

-- no option waits for a value
pub data Ready : Waiting → Type 0 where
  at_start : Ready idle
  in_positional : Ready positional

-- where a walk is between two words, before a subcommand
abbrev pub at : Held → Waiting → ℕ → Bool → Walk
at held waiting position trailing = record { held = held; waiting = waiting; position = position; is_trailing = trailing; stopped = None }

-- ---- one word

met : (s : Shape) (trailing : Bool) (waiting : Waiting) (position : ℕ) (word : Text) (held : Held) → Ready waiting → NoFlag word
    → (word_met s.rules [] trailing waiting position word held ≡ (held, value)) × (word_fault s [] trailing waiting word held ≡ [])
met s true waiting position word held ready plain = (refl, refl)
met s false idle position word held ready plain = (rw (plain.other, plain.long, plain.short) refl, rw (plain.other, plain.long, plain.short) refl)
met s false positional position word held ready plain = (rw (plain.other, plain.long, plain.short) refl, rw (plain.other, plain.long, plain.short) refl)
met s false (option _) position word held ready plain = elim ready [ ]

turn : (s : Shape) (trailing : Bool) (waiting : Waiting) (position : ℕ) (word : Text) (held : Held) → Ready waiting → NoFlag word
    → turn_fault s [] (at held waiting position trailing) word ≡ step_fault s position held value
turn s trailing waiting position word held ready plain =
    let is = met s trailing waiting position word held ready plain in
    ap₂ (λ (kinds : Kinds) (met : Held × _). or_else kinds (step_fault s position met.0 met.1)) is.1 is.0

step : (s : Shape) (trailing : Bool) (waiting : Waiting) (position : ℕ) (word : Text) (held : Held) → Ready waiting → NoFlag word
    → walked s.rules [] (at held waiting position trailing) word
    ≡ to_positional s.rules (arg_by_index s.rules position) word (at held waiting position trailing) held
unfolding walked
step s trailing waiting position word held ready plain = let is = (met s trailing waiting position word held ready plain).0 in rw is refl

after_positional : (several : Bool) → Ready (if several then positional else idle)
after_positional true = in_positional
after_positional false = at_start

-- ---- all words

-- two walks over such words hold the same at the end, and find the same faults
abbrev pub EndAlike : Shape → Walk → List Text → Walk → List Text → Type 0
EndAlike s one words other others =
    ((fold (walked s.rules []) one words).held ≡ (fold (walked s.rules []) other others).held) × (walk_fault s [] one words ≡ walk_fault s [] other others)

same_walk : (s : Shape) (words : List Text) → ArePlain words → (held : Held) (waiting : Waiting) (position : ℕ) (trailing : Bool) → Ready waiting
    → EndAlike s (at held waiting position trailing) words (at held waiting position true) words
unfolding walk_fault
same_walk s [] plain held waiting position trailing ready = (refl, refl)
same_walk s (word ∷ words) plain held waiting position trailing ready =
    let word_plain = no_flag word plain.0 in
    let later : EndAlike s (walked s.rules [] (at held waiting position trailing) word) words (walked s.rules [] (at held waiting position true) word) words =
    rw (step s trailing waiting position word held ready word_plain, step s true waiting position word held ready word_plain)
    (go (arg_by_index s.rules position) (same_walk s words plain.1)) in
    (later.0, ap₂ or_else (turn s trailing waiting position word held ready word_plain ∙ sym (turn s true waiting position word held ready word_plain)) later.1)
  where
    go : (taker : Option Rule) → ((h : Held) (w : Waiting) (p : ℕ) (t : Bool) → Ready w → EndAlike s (at h w p t) words (at h w p true) words)
        → EndAlike s (to_positional s.rules taker word (at held waiting position trailing) held) words
        (to_positional s.rules taker word (at held waiting position true) held) words
    go None later = later held waiting position trailing ready
    go (Some rule) later =
        later (positional_held s.rules rule word held) (if is_multiple rule then positional else idle) (next_position rule position)
        (trailing || rule.trailing_var_arg) (after_positional (is_multiple rule))

-- no option waits for a value, and `--` was not met
abbrev pub IsIdle : Walk → Type 0
IsIdle walk = walk ≡ at walk.held idle walk.position false

-- these words behind others, which may be options with their values
pub same_after : (s : Shape) (words : List Text) → ArePlain words → (firsts : List Text) (walk : Walk) → IsIdle (fold (walked s.rules []) walk firsts)
    → EndAlike s walk (firsts ++ words) walk (firsts ++ hyphens ∷ words)
unfolding walked walk_fault
same_after s words plain [] walk is =
    subst (λ (w : Walk). EndAlike s w words w (hyphens ∷ words)) (sym is) (same_walk s words plain walk.held idle walk.position false at_start)
same_after s words plain (first ∷ firsts) walk is =
    let later = same_after s words plain firsts (walked s.rules [] walk first) is in
    (later.0, ap (or_else (turn_fault s [] walk first)) later.1)
