-- `find_texts`
use Rattle.command_line.proofs.Common.{◌≡◌, ◌∙◌, ℕ, List, [], Option, Some, None, Bor, ap, refl, found_of, option_map, option_map_or, raw_values-rows, texts_of}
use Rattle.command_line.proofs.Common.{unwrap_or}
use Rattle.command_line.proofs.parser.find_texts.Goals as goal

texts_or_none : (found : Option (Bor (List (Bor (List ℕ)))))
    → texts_of (option_map_or (λ f. f.now) found []) ≡ unwrap_or (option_map (λ f. texts_of f.now) found) []
texts_or_none None = refl
texts_or_none (Some texts) = refl

pub returns : goal.returns
returns c =
    ap texts_of c.or_none.ensures ∙ texts_or_none c.get_strs.result
    ∙ ap (λ (found : Option (List (List ℕ))). unwrap_or found []) (c.get_strs.ensures ∙ raw_values-rows (found_of c.args.given.now) c.args.id.now)
