-- Which kinds a fault of a text has, and at which lines.
use Rattle.cats_text.proofs.Common.{◌≡◌, ◌≢◌, ℕ, suc, ◌<◌, ◌≤◌, nat_le, Bool, true, false, ◌&&◌, List, [], ◌∷◌, ◌++◌, Option, Some, None, IfSome, option_map}
use Rattle.cats_text.proofs.Common.{refl, if◌then◌else◌, take, length, filter, arith, option_or, AllByRecursion, Word, RawLine, Line, line_count}
use Rattle.cats_text.proofs.Common.{significant_lines, raw_lines, blank_returns, numbered, is_significant, when, header_word, header_end, number_word}
use Rattle.cats_text.proofs.Common.{price_word, good_word, bid_word, bid_end, Bounds, word_fault, end_fault, words_fault, fault_at, line_fault, lines_fault}
use Rattle.cats_text.proofs.Common.{first_fault, complete_fault, is_line_due, is_text_kind, IsOfText, fed_fault, Kind, Missing, TooLong, Device, Memory}
use Rattle.cats_text.proofs.Common.{ReadFault, common_steps}

-- a word, or a line's end, may have a fault of this kind
abbrev is_line_kind : Kind → Bool
is_line_kind Missing = false
is_line_kind kind = is_text_kind kind

abbrev OfLine : Option Kind → Type 0
OfLine fault = IfSome fault (λ kind. is_line_kind kind ≡ true)

when-kind : (test : Bool) (kind : Kind) (later : Option Kind) → is_line_kind kind ≡ true → OfLine later → OfLine (when test kind later)
when-kind true kind later h rest = h
when-kind false kind later h rest = rest

or-kind : (first later : Option Kind) → OfLine first → OfLine later → OfLine (option_or first later)
or-kind None later h rest = rest
or-kind (Some kind) later h rest = h

if-kind : (test : Bool) (first later : Option Kind) → OfLine first → OfLine later → OfLine (if test then first else later)
if-kind true first later h rest = h
if-kind false first later h rest = rest

ruleset chain = (when-kind, if-kind, or-kind)

header_word-kind : (keyword : Word) (limit : ℕ) (before : List Word) (w : Word) → OfLine (header_word keyword limit before w)
header_word-kind keyword limit (_ ∷ _ ∷ _) w = refl
header_word-kind keyword limit _ w = search chain

header_end-kind : (words : List Word) → OfLine (header_end words)
header_end-kind (_ ∷ _ ∷ _) = tt
header_end-kind _ = refl

number_word-kind : (h : Bounds) (lines : List (List Word)) (w : Word) → OfLine (number_word h lines w)
number_word-kind h lines w = search chain

price_word-kind : (w : Word) → OfLine (price_word w)
price_word-kind w = search chain

good_word-kind : (h : Bounds) (before : List Word) (w : Word) → OfLine (good_word h before w)
good_word-kind h before w = search chain depth 9

bid_word-kind : (h : Bounds) (lines : List (List Word)) (before : List Word) (w : Word) → OfLine (bid_word h lines before w)
bid_word-kind h lines [] w = number_word-kind h lines w
bid_word-kind h lines (_ ∷ []) w = price_word-kind w
bid_word-kind h lines (_ ∷ _ ∷ before) w = good_word-kind h before w

bid_end-kind : (words : List Word) → OfLine (bid_end words)
bid_end-kind words = search chain

word_fault-kind : (lines : List (List Word)) (before : List Word) (w : Word) → OfLine (word_fault lines before w)
word_fault-kind (g ∷ b ∷ d ∷ lines) before w = bid_word-kind _ lines before w
word_fault-kind _ before w = header_word-kind _ _ before w

end_fault-kind : (lines : List (List Word)) (words : List Word) → OfLine (end_fault lines words)
end_fault-kind (g ∷ b ∷ d ∷ lines) words = bid_end-kind words
end_fault-kind _ words = header_end-kind words

words_fault-kind : (lines : List (List Word)) (before words : List Word) → OfLine (words_fault lines before words)
words_fault-kind lines before [] = tt
words_fault-kind lines before (w ∷ ws) = or-kind _ _ (word_fault-kind lines before w) (words_fault-kind lines (before ++ w ∷ []) ws)

-- it is one of a text, and of the end of the input only where the input is whole
abbrev pub IsFound : Bool → ReadFault → Type 0
IsFound whole e = IsOfText e × (whole ≡ false → e.kind ≢ Missing)

abbrev Found : Bool → Option ReadFault → Type 0
Found whole fault = IfSome fault (IsFound whole)

line_kind-found : (whole : Bool) (line : ℕ) (kind : Kind) → 0 < line → is_line_kind kind ≡ true → IsFound whole (fault_at line kind)
line_kind-found whole line Missing l h = cc
line_kind-found whole line kind l h = (record { kind = h; line = l }, λ _ e. cc)

at-found : (whole : Bool) (line : ℕ) (fault : Option Kind) → 0 < line → OfLine fault → Found whole (option_map (fault_at line) fault)
at-found whole line None l h = tt
at-found whole line (Some kind) l h = line_kind-found whole line kind l h

line_fault-found : (whole : Bool) (lines : List (List Word)) (l : Line) → 0 < l.number → Found whole (line_fault whole lines l)
line_fault-found whole lines l h = grind (arith, common_steps, at-found, end_fault-kind, if-kind, or-kind, words_fault-kind)

or-found : (whole : Bool) (first later : Option ReadFault) → Found whole first → Found whole later → Found whole (option_or first later)
or-found whole None later h rest = rest
or-found whole (Some fault) later h rest = h

missing-found : (whole due : Bool) (line : ℕ) → Found whole (if whole && due then Some (fault_at (suc line) Missing) else None)
missing-found true true line = (record { kind = refl; line = omega arith }, λ e. cc)
missing-found _ _ line = tt

lines_fault-found : (whole : Bool) (count : ℕ) (lines : List (List Word)) (ls : List Line) → AllByRecursion (λ l. 0 < l.number) ls
    → Found whole (lines_fault whole count lines ls)
lines_fault-found whole count lines [] h = missing-found whole (is_line_due lines) count
lines_fault-found whole count lines (l ∷ ls) h =
    grind (arith, common_steps, line_fault-found, or-found, (lines_fault-found whole count (lines ++ l.words ∷ []) ls h.1))

-- lines are counted from 1
numbered-pos : (n : ℕ) (ls : List RawLine) → 0 < n → AllByRecursion (λ l. 0 < l.number) (filter (λ l. is_significant l.words) (numbered n ls))
numbered-pos n [] h = tt
numbered-pos n (l ∷ ls) h = grind (arith, common_steps, (numbered-pos (suc n) ls))

pub first_fault-found : (text : List ℕ) → Found true (first_fault text)
first_fault-found text = lines_fault-found true (line_count text) [] (significant_lines text) (numbered-pos 1 (raw_lines (blank_returns text)) (omega arith))

pub complete_fault-found : (bytes : List ℕ) → Found false (complete_fault bytes)
complete_fault-found bytes = grind (arith, common_steps, lines_fault-found, numbered-pos)

-- neither a device nor memory is at fault
abbrev pub IsFaultOfBytes : ReadFault → Type 0
IsFaultOfBytes e = (e.kind ≢ Device) × (e.kind ≢ Memory)

of_text-of_bytes : (kind : Kind) → is_text_kind kind ≡ true → (kind ≢ Device) × (kind ≢ Memory)
of_text-of_bytes Device h = cc
of_text-of_bytes Memory h = cc
of_text-of_bytes _ h = (λ e. cc, λ e. cc)

or_too_long-kind : (whole : Bool) (fault : Option ReadFault) → Found whole fault → IfSome (option_or fault (Some (fault_at 0 TooLong))) IsFaultOfBytes
or_too_long-kind whole None h = (λ e. cc, λ e. cc)
or_too_long-kind whole (Some e) h = of_text-of_bytes e.kind h.0.kind

found-kind : (whole : Bool) (fault : Option ReadFault) → Found whole fault → IfSome fault IsFaultOfBytes
found-kind whole None h = tt
found-kind whole (Some e) h = of_text-of_bytes e.kind h.0.kind

either-kind : (test : Bool) (first later : Option ReadFault) → IfSome first IsFaultOfBytes → IfSome later IsFaultOfBytes
    → IfSome (if test then first else later) IsFaultOfBytes
either-kind true first later h rest = h
either-kind false first later h rest = rest

pub first_fault-of_bytes : (text : List ℕ) → IfSome (first_fault text) IsFaultOfBytes
first_fault-of_bytes text = found-kind true (first_fault text) (first_fault-found text)

pub fed_fault-of_bytes : (limit : ℕ) (bytes : List ℕ) → IfSome (fed_fault limit bytes) IsFaultOfBytes
fed_fault-of_bytes limit bytes =
    either-kind (nat_le (length bytes) limit) (complete_fault bytes) (option_or (complete_fault (take limit bytes)) (Some (fault_at 0 TooLong)))
    (found-kind false (complete_fault bytes) (complete_fault-found bytes))
    (or_too_long-kind false (complete_fault (take limit bytes)) (complete_fault-found (take limit bytes)))

or_some : (fault : Option ReadFault) (e : ReadFault) → option_or fault (Some e) ≢ None
or_some None e h = cc
or_some (Some f) e h = cc

if_none : (test : Bool) (first fault : Option ReadFault) (e : ReadFault) → (if test then first else option_or fault (Some e)) ≡ None → test ≡ true
if_none true first fault e h = refl
if_none false first fault e h = absurd (or_some fault e h)

-- no fault was found, so there are no more bytes than the limit
pub fed_within : (limit : ℕ) (bytes : List ℕ) → fed_fault limit bytes ≡ None → length bytes ≤ limit
fed_within limit bytes h = grind (arith, common_steps, if_none, nat_le)
