-- Texts that are put behind a line one after the other, and the line that is then sent.
use Rattle.cats_cmd.proofs.Common.{◌≡◌, ℕ, ◌+◌, ◌<◌, List, [], ◌∷◌, ◌++◌, length, get_or, take, refl, sym, ap, ◌∙◌, subst, append-nil, append_assoc, Option}
use Rattle.cats_cmd.proofs.Common.{flat_map, ◌==◌, true, arith, eqb-true, flat_map-append, take_more, escaped, Gathers, GathersNext, Watched, Reports}
use Rattle.cats_cmd.proofs.Reporting.{reports_nothing, reports_then}

module _ {E : Type 0} (messages : E → Option (List ℕ)) where
  pub gathers_nothing : (line : List ℕ) (err : Watched E) → Gathers messages [] line line err err
  gathers_nothing line err = record { sent = []; reports = reports_nothing messages err; all = sym (append-nil line) }

  -- so much was sent before the text was put behind what was left
  pub gathers_behind : (text line : List ℕ) (old new : Watched E) → Reports messages [] old new → Gathers messages text line (line ++ text) old new
  gathers_behind text line old new none = record { sent = []; reports = none; all = refl }

  pub gathers_then : (text more : List ℕ) (line between line_after : List ℕ) (old mid new : Watched E) → Gathers messages text line between old mid
      → Gathers messages more between line_after mid new → Gathers messages (text ++ more) line line_after old new
  gathers_then text more line between line_after old mid new first then = record {
    sent = first.sent ++ then.sent;
    reports = reports_then messages first.sent then.sent old mid new first.reports then.reports;
    all = append_assoc first.sent then.sent line_after ∙ ap (λ (t : List ℕ). first.sent ++ t) then.all
        ∙ sym (append_assoc first.sent between more) ∙ ap (λ (t : List ℕ). t ++ more) first.all ∙ append_assoc line text more;
  }

  -- three texts
  pub gathers_three : (one two three : List ℕ) (k l m n : List ℕ) (a b c d : Watched E) → Gathers messages one k l a b → Gathers messages two l m b c
      → Gathers messages three m n c d → Gathers messages (one ++ two ++ three) k n a d
  gathers_three one two three k l m n a b c d first second third =
      gathers_then (one ++ two) three k m n a c d (gathers_then one two k l m a b c first second) third

  -- of a list of texts: one more
  pub gathers_next : {X : Type 0} (f : X → List ℕ) (xs : List X) (i : ℕ) (d : X) → i < length xs → (k l m : List ℕ) (a b c : Watched E)
      → Gathers messages (flat_map f (take i xs)) k l a b → Gathers messages (f (get_or xs i d)) l m b c
      → Gathers messages (flat_map f (take (i + 1) xs)) k m a c
  gathers_next f xs i d within k l m a b c before now =
      rw (take_more xs i d within, flat_map-append f (take i xs) (get_or xs i d ∷ []), append-nil (f (get_or xs i d)))
      (gathers_then (flat_map f (take i xs)) (f (get_or xs i d)) k l m a b c before now)

  -- a line of one text was gathered, and is sent
  pub gathered_sent : (text line : List ℕ) (old mid new : Watched E) → Gathers messages text [] line old mid → Reports messages line mid new
      → Reports messages text old new
  gathered_sent text line old mid new gathers sends =
      subst (λ (t : List ℕ). Reports messages t old new) gathers.all (reports_then messages gathers.sent line old mid new gathers.reports sends)

  -- ---- a path

  pub gathers_part : (path rest behind : List ℕ) (k l m : List ℕ) (a b c : Watched E) → GathersNext messages path rest k l a b
      → GathersNext messages rest behind l m b c → GathersNext messages path behind k m a c
  gathers_part path rest behind k l m a b c first then = record {
    text = first.text ++ then.text;
    gathers = gathers_then first.text then.text k l m a b c first.gathers then.gathers;
    completes = append_assoc first.text then.text (escaped behind) ∙ ap (λ (t : List ℕ). first.text ++ t) then.completes ∙ first.completes;
  }

  -- nothing is left of the path
  pub all_gathered : (path rest line line_after : List ℕ) (old new : Watched E) → GathersNext messages path rest line line_after old new
      → true ≡ (length rest == 0) → Gathers messages (escaped path) line line_after old new
  all_gathered path [] line line_after old new next none =
      subst (λ (t : List ℕ). Gathers messages t line line_after old new) (sym (append-nil next.text) ∙ next.completes) next.gathers
  all_gathered path (b ∷ bs) line line_after old new next none =
      let empty : length (b ∷ bs) ≡ 0 = eqb-true (length (b ∷ bs)) 0 (sym none) in absurd (omega (arith, empty))
