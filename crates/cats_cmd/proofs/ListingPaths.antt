-- The parts of a list of paths: what is behind its last NUL is a path only if it is not empty.
use Rattle.cats_cmd.proofs.Common.{◌≡◌, ◌≢◌, ℕ, List, [], ◌∷◌, ◌++◌, length, refl, sym, ap, ◌∙◌, subst, arith, map, ◌<◌, true, Option, Err, list_all}
use Rattle.cats_cmd.proofs.Common.{slice_split, and_parts, eq-eqb, append_assoc, length-map, map-append, length-slice_split, slice_split_at, Watched}
use Rattle.cats_cmd.proofs.Common.{ReadFault, refusal_of, Only, IsUnread, IsOpened, ReadsBytes, Refused, ended, parts_in, paths_in, without_empty_end}
use Rattle.cats_cmd.proofs.Common.{Unopened, Bor, ◌==◌}
use Rattle.cats_cmd.proofs.PrintableTexts.{lacks, none_passes}
use Rattle.cats_cmd.proofs.ReadingBytes.{unread_stream}

end_dropped : (parts : List (List ℕ)) → without_empty_end (parts ++ [] ∷ []) ≡ parts
end_dropped (part ∷ next ∷ more) = ap (λ (rest : List (List ℕ)). part ∷ rest) (end_dropped (next ∷ more))
end_dropped ([] ∷ []) = refl
end_dropped parts = refl

end_kept : (parts : List (List ℕ)) (b : ℕ) (bs : List ℕ) → without_empty_end (parts ++ (b ∷ bs) ∷ []) ≡ parts ++ (b ∷ bs) ∷ []
end_kept (part ∷ next ∷ more) b bs = ap (λ (rest : List (List ℕ)). part ∷ rest) (end_kept (next ∷ more) b bs)
end_kept ([] ∷ []) b bs = refl
end_kept parts b bs = refl

any_end_dropped : (parts : List (List ℕ)) (end : List ℕ) → length end ≡ 0 → without_empty_end (parts ++ end ∷ []) ≡ parts
any_end_dropped parts [] none = end_dropped parts
any_end_dropped parts (b ∷ bs) none = absurd (omega (arith, none))

any_end_kept : (parts : List (List ℕ)) (end : List ℕ) → length end ≢ 0 → without_empty_end (parts ++ end ∷ []) ≡ parts ++ end ∷ []
any_end_kept parts [] some = absurd (some refl)
any_end_kept parts (b ∷ bs) some = end_kept parts b bs

abbrev pub plain : List (Bor (List ℕ)) → List (List ℕ)
plain paths = map (λ path. path.now) paths

-- the parts of a text whose last one is empty
pub rest_dropped : (all paths : List (Bor (List ℕ))) (rest : Bor (List ℕ)) (text : List ℕ) → plain all ≡ slice_split (λ b. b == 0) text
    → all ≡ paths ++ rest ∷ [] → length rest.now ≡ 0 → plain paths ≡ paths_in text
rest_dropped all paths rest text split last none =
    sym (ap without_empty_end (sym split ∙ ap plain last ∙ map-append (λ path. path.now) paths (rest ∷ [])) ∙ any_end_dropped (plain paths) rest.now none)

-- the parts of a text whose last one is not empty
pub rest_kept : (all paths : List (Bor (List ℕ))) (rest : Bor (List ℕ)) (text : List ℕ) → plain all ≡ slice_split (λ b. b == 0) text
    → all ≡ paths ++ rest ∷ [] → length rest.now ≢ 0 → plain all ≡ paths_in text
rest_kept all paths rest text split last some =
    let parts : plain all ≡ plain paths ++ rest.now ∷ [] = ap plain last ∙ map-append (λ path. path.now) paths (rest ∷ []) in
    parts ∙ sym (any_end_kept (plain paths) rest.now some) ∙ ap without_empty_end (sym parts ∙ split)

-- a text has a part
pub some_part : (end : ℕ) (text : List ℕ) → 0 < length (slice_split (λ b. b == end) text)
some_part end text = let count = length-slice_split (λ b. b == end) text in omega (arith, count)

pub no_rest : (all paths : List (Bor (List ℕ))) (text : List ℕ) → plain all ≡ slice_split (λ b. b == 0) text → (0 < length all → ⊥)
    → plain paths ≡ paths_in text
no_rest all paths text split none =
    absurd (none (subst (λ (n : ℕ). 0 < n) (sym (ap length split) ∙ length-map all (λ (path : Bor (List ℕ)). path.now)) (some_part 0 text)))

-- ---- the text that has a byte behind each part

first_whole : (path next : List ℕ) (more : List (List ℕ)) → without_empty_end (path ∷ next ∷ more) ≡ path ∷ without_empty_end (next ∷ more)
first_whole [] next more = refl
first_whole (b ∷ bs) next more = refl

first_of_more : (path : List ℕ) (parts : List (List ℕ)) → 0 < length parts → without_empty_end (path ∷ parts) ≡ path ∷ without_empty_end parts
first_of_more path [] some = absurd (omega (arith, some))
first_of_more path (next ∷ more) some = first_whole path next more

pub parts_back : (end : ℕ) (parts : List (List ℕ)) → list_all (lacks end) parts ≡ true → parts_in end (ended end parts) ≡ parts
parts_back end [] plain = refl
parts_back end (part ∷ parts) plain =
    let both = and_parts (lacks end part) (list_all (lacks end) parts) plain in
    let cut : slice_split (λ b. b == end) (ended end (part ∷ parts)) ≡ part ∷ slice_split (λ b. b == end) (ended end parts) =
    ap (slice_split (λ b. b == end)) (append_assoc part (end ∷ []) (ended end parts))
    ∙ slice_split_at (λ b. b == end) part end (ended end parts) (none_passes (λ b. b == end) part both.0) (eq-eqb end end refl) in
    ap without_empty_end cut ∙ first_of_more part (slice_split (λ b. b == end) (ended end parts)) (some_part end (ended end parts))
    ∙ ap (λ (rest : List (List ℕ)). part ∷ rest) (parts_back end parts both.1)

-- ---- the stream of a list

-- why the bytes of the list were not read
module _ {F : Type 0} (may_open : List ℕ → F → Type 0) (may_refuse : List ℕ → Unopened → Type 0) (remaining : F → Option (List ℕ)) (list : List ℕ)
    (before after : Watched F) (opened : IsOpened may_open list before) where
  pub list_unread : (fault : ReadFault) → ReadsBytes remaining before after (Err fault)
      → IsUnread may_open may_refuse remaining list (Refused Only (refusal_of fault))
  list_unread fault unread =
      unread_stream remaining before after (λ why. IsUnread may_open may_refuse remaining list (Refused Only why))
      (λ f stops. (refl, record { before = before; after = after; opened = opened; stops = stops }))
      (λ wants. (refl, record { before = before; after = after; opened = opened; wants = wants })) fault unread
