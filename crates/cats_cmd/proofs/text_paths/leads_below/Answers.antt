-- `leads_below`
use Rattle.cats_cmd.proofs.Common.{◌≡◌, ◌∙◌, ap, sym, Bor, ℕ, List, list_all, list_all-map}
use Rattle.cats_cmd.specs.TextPaths.{is_name}
use Rattle.cats_cmd.proofs.text_paths.leads_below.Goals as goal

pub returns : goal.returns
returns c =
    c.are_names.ensures ∙ ap (list_all (λ (part : Bor (List ℕ)). is_name part.now)) c.as_slice.ensures.value
    ∙ sym (list_all-map is_name (λ (part : Bor (List ℕ)). part.now) c.in_ok-parts.parts.items) ∙ ap (list_all is_name) c.in_ok-parts.ensures
