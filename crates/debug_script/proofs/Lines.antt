-- Appended lines.
use Rattle.std.proofs.Common.{◌≡◌, ℕ, refl, sym, ◌∙◌, ap, List, [], ◌∷◌, ◌++◌, flat_map}
use Rattle.std.proofs.lemmas.List.{append_assoc, append-nil}
use Rattle.nano_spec.specs.declared.system.Bot.{Bot}
use Rattle.debug_script.specs.Printing.{bot_line}

bots_joined : (xs ys : List Bot) → flat_map bot_line (xs ++ ys) ≡ flat_map bot_line xs ++ flat_map bot_line ys
bots_joined [] ys = refl
bots_joined (b ∷ xs) ys = ap (λ v. bot_line b ++ v) (bots_joined xs ys) ∙ sym (append_assoc (bot_line b) (flat_map bot_line xs) (flat_map bot_line ys))

-- the line of one more bot is appended to those before it
pub bots_on : (start : List ℕ) (before more : List Bot) (b : Bot) (old new : List ℕ) → more ≡ before ++ b ∷ []
    → old ≡ start ++ flat_map bot_line before → new ≡ old ++ bot_line b → new ≡ start ++ flat_map bot_line more
bots_on start before more b old new m o n =
    let one : flat_map bot_line (b ∷ []) ≡ bot_line b = append-nil (bot_line b) in
    let flat_map_is : flat_map bot_line more ≡ flat_map bot_line before ++ bot_line b = ap (flat_map bot_line) m ∙ (bots_joined before (b ∷ []) ∙ ap (λ v. flat_map bot_line before ++ v) one) in
    n ∙ (ap (λ v. v ++ bot_line b) o ∙ (append_assoc start (flat_map bot_line before) (bot_line b) ∙ ap (λ v. start ++ v) (sym flat_map_is)))
