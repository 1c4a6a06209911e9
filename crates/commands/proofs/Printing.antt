-- The lines of the XOR bidders, one by one: one more bidder's line, made piece by piece, is put behind those of the bidders before it.
use Rattle.commands.proofs.Common.{◌≡◌, ℕ, ◌+◌, ◌<◌, List, ◌∷◌, ◌++◌, length, map, get_or, Global, sym, ap, ◌∙◌, arith, append_assoc, Vec, OnOk, is_ok}
use Rattle.commands.proofs.Common.{if◌then◌else◌, All, flat_map, range_with_len, All-weaker, PlainBid, PlainFile, price_text, Atom, or_atoms_of, xor_atoms_of}
use Rattle.commands.proofs.Common.{bidders_of, atoms_of, chosen_indices, xor_value, chosen_indices-packing, best_place, dummy_line, numbers_text}
use Rattle.commands.proofs.Common.{option_places, or_numbers, xor_line, xor_numbers, Option, Result, Ok, Err, codes, decimal}
use Rattle.commands.proofs.ByNumber.{seen_by_number-at}
use Rattle.commands.proofs.Lines.{lines_more}
use Rattle.commands.proofs.Numbering.{length-or_numbers}

-- the atoms of a bidder
pub bidder_at : {S : Type 0} (goods : S → List ℕ) (bidders : List (Vec (Atom S) Global)) (bids : List PlainBid) (n d : ℕ) (v : Vec (Atom S) Global)
    → bidders_of goods bidders ≡ map (xor_atoms_of bids) (range_with_len 0 n) → d < n → v ≡ get_or bidders d v → atoms_of goods v.items ≡ xor_atoms_of bids d
bidder_at {S} goods bidders bids n d v h m is = seen_by_number-at (λ (w : Vec (Atom S) Global). atoms_of goods w.items) bidders (xor_atoms_of bids) n h d v m is

-- the line of a bidder is added
pub line_added : (file : PlainFile) (bundle old before after : List ℕ) (d good : ℕ) (atoms : List (Atom (List ℕ))) (numbers : List ℕ)
    → before ≡ old ++ flat_map (dummy_line file bundle) (range_with_len 0 d) → after ≡ before ++ xor_line good atoms numbers bundle
    → good ≡ file.goods + d → atoms ≡ xor_atoms_of file.bids d → numbers ≡ xor_numbers file.bids d
    → after ≡ old ++ flat_map (dummy_line file bundle) (range_with_len 0 (d + 1))
line_added file bundle old before after d good atoms numbers b a g seen listed = rw (a, b, g, seen, listed) (lines_more (dummy_line file bundle) old d)

-- if it succeeded, this was appended
pub appended : {T E : Type 0} (r : Result T E) (new longer old : List ℕ) → new ≡ (if is_ok r then longer else old) → OnOk r (new ≡ longer)
appended (Ok x) new longer old e = e
appended (Err x) new longer old e = tt

-- the line of a bidder, piece by piece
pub xor_line_made : (good value : ℕ) (place : Option ℕ) (atoms : List (Atom (List ℕ))) (numbers bundle old keyword named spaced priced printed after : List ℕ)
    → value ≡ xor_value atoms bundle → best_place atoms bundle ≡ place
    → keyword ≡ old ++ codes "xor" → named ≡ keyword ++ 32 ∷ decimal good → spaced ≡ named ++ codes " " → priced ≡ spaced ++ price_text value
    → printed ≡ priced ++ numbers_text numbers (option_places place) → after ≡ printed ++ codes "\n" → after ≡ old ++ xor_line good atoms numbers bundle
xor_line_made good value place atoms numbers bundle old keyword named spaced priced printed after v p k n s c t a =
    rw (a, t, c, s, n, k, v, ← p)
    (joined old (codes "xor") (32 ∷ decimal good) (codes " ") (price_text (xor_value atoms bundle))
    (numbers_text numbers (option_places (best_place atoms bundle))) (codes "\n"))
  where
    joined : (a b c d e f g : List ℕ) → a ++ b ++ c ++ d ++ e ++ f ++ g ≡ a ++ (b ++ c ++ d ++ e ++ f ++ g)
    joined a b c d e f g = simp append_assoc

-- the chosen places are those of bids
pub places_within : (atoms : List (Atom (List ℕ))) (bids : List PlainBid) (bundle places numbers : List ℕ)
    → places ≡ chosen_indices atoms bundle → atoms ≡ or_atoms_of bids → numbers ≡ or_numbers bids → All (λ place. place < length numbers) places
places_within atoms bids bundle places numbers p a n =
    let long : length numbers ≡ length atoms = ap (length {A = ℕ}) n ∙ length-or_numbers bids ∙ ap (length {A = Atom (List ℕ)}) (sym a) in
    rw p (All-weaker (λ i. i < length atoms) (λ i. i < length numbers) (λ i below. omega arith) (chosen_indices atoms bundle)
    (chosen_indices-packing atoms bundle).within)
