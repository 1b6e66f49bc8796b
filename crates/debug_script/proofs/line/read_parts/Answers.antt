use Rattle.std.proofs.Common.{◌∙◌, ℕ, List, [], ◌∷◌, ap, subst, sym}
use Rattle.debug_script.specs.Calls.{IsReadBy}
use Rattle.debug_script.specs.Script.{PartsSay, line_parts}
use Rattle.debug_script.proofs.Forms.{word_found}
use Rattle.debug_script.proofs.line.read_parts.Goals as goal

pub returns-in-None : goal.returns-in-None
returns-in-None c =
    let cut_part_ensured = rw c.in-None.is at c.cut_part.ensures in
    let its_word = word_found c.cut_part.result.0.now c.in-Some.word (sym c.in-Some.is ∙ c.of.ensures) in
    subst (λ (ps : List (List ℕ)). IsReadBy (PartsSay c.args.resolution ps) c.args.number c.read_word.result) (sym (cut_part_ensured ∙ ap (λ (b : List ℕ). b ∷ []) its_word)) (c.read_word.ensures c.args.resolution)

pub returns-in-Some-rest : goal.returns-in-Some-rest
returns-in-Some-rest c =
    let cut_part_ensured = rw c.in-Some-rest.is at c.cut_part.ensures in
    let its_word = word_found c.cut_part.result.0.now c.in-Some.word (sym c.in-Some.is ∙ c.of.ensures) in
    subst (λ (ps : List (List ℕ)). IsReadBy (PartsSay c.args.resolution ps) c.args.number c.read_numbers.result) (sym (cut_part_ensured ∙ ap (λ (b : List ℕ). b ∷ line_parts c.in-Some-rest.rest.now) its_word)) c.read_numbers.ensures
