-- The texts of files in memory, as contracts list them, and the folder that is there.
use Rattle.std.proofs.Common.{◌≡◌, ◌||◌, ℕ, Bool, true, false, List, [], ◌∷◌, ◌++◌, map, refl, sym, ap, ap₂, ◌∙◌, Some, Vec, Global}
use Rattle.std.proofs.Common.{◌⊎◌, None, codes, inr, not}
use Rattle.std.proofs.lemmas.Bool.{false≢true}
use Rattle.std.proofs.lemmas.List.{map-append}
use Rattle.std.proofs.lemmas.List.Elements.{All-nil, All-push}
use Rattle.std.proofs.lemmas.Slice.Eq.{bytes_eq-Decides}
use Rattle.std.specs.List.{list_any}
use Rattle.std.specs.List.Sorted.{IsStrictlySortedBy}
use Rattle.std.specs.Str.{bytes_eq}
use Rattle.cats_cmd.specs.Folders.{IsBelow, ListsFolder, paths_of}
use Rattle.cats_cmd.specs.Stores.{MayHave}
use Rattle.commands.specs.declared.faults.Unwritten.{Unwritten}
use Rattle.commands.specs.declared.faults.Unwritten.TheVariants.{Exists}

abbrev pub Entry : Type 0
Entry = Vec ℕ Global × Vec ℕ Global

abbrev pub shown : Entry → List ℕ × List ℕ
shown t = (t.0.items, t.1.items)

abbrev pub finds : List ℕ → List Entry → Bool
finds path texts = list_any {X = Entry} (λ t. bytes_eq t.0.items path) texts

-- a path is found among them as among their vectors
any_shown : (path : List ℕ) (texts : List Entry) → list_any {X = List ℕ × List ℕ} (λ t. bytes_eq t.0 path) (map shown texts) ≡ finds path texts
any_shown path [] = refl
any_shown path (t ∷ texts) = ap (λ (b : Bool). bytes_eq t.0.items path || b) (any_shown path texts)

pub lacks : (path other : List ℕ) (texts seen : List Entry) (found : Bool) → other ≡ path → seen ≡ texts → found ≡ finds other seen → found ≡ false
    → list_any {X = List ℕ × List ℕ} (λ t. bytes_eq t.0 path) (map shown texts) ≡ false
lacks path other texts seen found is_path is_seen is none =
    any_shown path texts ∙ sym (is ∙ ap₂ (λ (p : List ℕ) (ts : List Entry). finds p ts) is_path is_seen) ∙ none

pub may_have : (path other : List ℕ) (texts seen : List Entry) (found : Bool) → other ≡ path → seen ≡ texts → found ≡ finds other seen
    → MayHave (λ (path : List ℕ) (why : Unwritten). why ≡ Exists) (Some (map shown texts)) path found
may_have path other texts seen true is_path is_seen is = refl
may_have path other texts seen false is_path is_seen is = lacks path other texts seen false is_path is_seen is refl

pub more_shown : (path text : List ℕ) (texts new : List Entry) (p t : Vec ℕ Global) → new ≡ texts ++ (p, t) ∷ [] → p.items ≡ path → t.items ≡ text
    → map shown new ≡ map shown texts ++ (path, text) ∷ []
more_shown path text texts new p t is is_path is_text =
    ap (map shown) is ∙ map-append shown texts ((p, t) ∷ []) ∙ ap₂ (λ (a b : List ℕ). map shown texts ++ (a, b) ∷ []) is_path is_text

is_tree : (path : List ℕ) (same : Bool) → bytes_eq path (codes "tree") ≡ same → false ≡ not same → path ≡ codes "tree"
is_tree path true is other = (bytes_eq-Decides path (codes "tree")).0 is
is_tree path false is other = absurd (false≢true other)

-- the folder, and the file below it
pub tree_found : (path : List ℕ) (files : List (Vec ℕ Global)) (file : Vec ℕ Global) → false ≡ not (bytes_eq path (codes "tree"))
    → files ≡ file ∷ [] → file.items ≡ codes "tree/one"
    → ((Some (paths_of files) ≡ None) ⊎ ((path ≡ codes "tree") × (Some (paths_of files) ≡ Some (codes "tree/one" ∷ [])))) × ListsFolder path (paths_of files)
unfolding IsStrictlySortedBy
tree_found path files file other one is_file =
    let below = IsBelow (codes "tree") in
    rw (one, is_tree path (bytes_eq path (codes "tree")) refl other, is_file)
    (inr (refl, refl), record { below = All-push below [] (codes "tree/one") (All-nil below) (codes "one", refl); sorted = (tt, tt) })
