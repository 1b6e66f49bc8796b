use Rattle.std.proofs.Common.{◌≡◌, ◌∙◌, ap, subst, sym, ◌∷◌, ◌++◌, [], IfOk, codes, decimal, string_bytes, ℕ, List}
use Rattle.std.specs.Fmt.{signed_decimal}
use Rattle.std.specs.List.{concat}
use Rattle.std.proofs.lemmas.List.Folds.{concat-append}
use Rattle.nanobot_rows.proofs.lines.exercised_line.Goals as goal

pub returns : goal.returns
returns c =
    let head : List (List ℕ) =
    codes "exercise number " ∷ decimal c.args.number ∷ codes " resolution " ∷ decimal c.args.resolution ∷ codes " full "
    ∷ decimal c.args.full ∷ [] in
    let costs : List (List ℕ) =
    codes " layer energy " ∷ signed_decimal c.args.layer.energy ∷ codes " steps " ∷ decimal c.args.layer.steps ∷ codes " group energy "
    ∷ signed_decimal c.args.group.energy ∷ codes " steps " ∷ decimal c.args.group.steps ∷ codes "\n" ∷ [] in
    let joined = ap (λ (text : List ℕ). text ++ concat costs) (c.as_str.ensures.value ∙ c.in_ok-head.ensures) ∙ sym (concat-append head costs) in
    subst (λ (line : List ℕ). IfOk c.with_costs.result (λ s. string_bytes s ≡ line)) joined c.with_costs.ensures
