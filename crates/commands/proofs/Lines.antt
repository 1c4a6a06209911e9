-- Lines by number: one more line is put behind those before it.
use Rattle.commands.proofs.Common.{◌≡◌, ℕ, ◌+◌, List, ◌++◌, sym, ap, ◌∙◌, zero-add, flat_map, range_with_len, flat_map_more, map-id, map-range_with_len_more}

-- one more line
pub lines_more : (f : ℕ → List ℕ) (before : List ℕ) (n : ℕ)
    → (before ++ flat_map f (range_with_len 0 n)) ++ f n ≡ before ++ flat_map f (range_with_len 0 (n + 1))
lines_more f before n =
    flat_map_more f before (range_with_len 0 n) n
    ∙ ap (λ (ms : List ℕ). before ++ flat_map f ms) (sym (simp map-id at (map-range_with_len_more (λ (m : ℕ). m) 0 n n (zero-add n))))
