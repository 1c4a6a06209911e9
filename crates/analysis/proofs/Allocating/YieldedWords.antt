-- The words that a loop over the parts of a line has, where it leaves out the empty ones.
use Rattle.analysis.proofs.Common.{◌≡◌, ℕ, Bool, false, List, Bor, words_in, CalledAt, Yields, filter_callee, filter_source, filter_steps, YieldsList, is_gap}
use Rattle.analysis.proofs.Common.{YieldsList-at, YieldsList-from_filter, YieldsList-from_slice_split, is_word, Mut}
use Rattle.std.specs.Slice.Iter as slice

pub words_yielded : {F H : Type 0} {g : Mut F (Bor ℕ × Unit {0}) Bool} {h : Mut H (Bor (Bor (List ℕ)) × Unit {0}) Bool} {s all parts : _} {f : F} {k : H}
    (line : List ℕ) (xs : List (Bor (List ℕ))) (t : _) → Yields (filter_steps (slice.split_steps g) h) s xs t → s ≡ all → filter_source all ≡ parts
    → filter_callee all ≡ k → slice.split_rest parts ≡ line → slice.split_done parts ≡ false → slice.split_callee parts ≡ f
    → ((x : ℕ) (b : Bool) (q : F) → CalledAt g f x b q → (q ≡ f) × (b ≡ is_gap x))
    → ((x : Bor (List ℕ)) (b : Bool) (q : H) → CalledAt h k x b q → (q ≡ k) × (b ≡ is_word x.now))
    → YieldsList (filter_steps (slice.split_steps g) h) (λ x. x.now) s (words_in line)
words_yielded {g = g} {h = h} line xs t y same source callee rest done closure gaps words =
    YieldsList-at same
    (YieldsList-from_filter h is_word (YieldsList-at source (YieldsList-from_slice_split g is_gap line rest done closure gaps)) callee words)
