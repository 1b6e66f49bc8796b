use Rattle.std.proofs.Common.{◌≡◌, ◌∷◌, ◌++◌, [], sym, subst, ◌∙◌}
use Rattle.nano_spec.specs.State.{first_bot}
use Rattle.bot_crew.specs.Crew.{IsCrew}
use Rattle.bot_crew.proofs.Heirs.{first_crew}
use Rattle.bot_crew.proofs.crew.Crew.opening.Goals as goal

pub invariant_of-result : goal.invariant_of-result
invariant_of-result c =
    let one : c.push.new.self.items ≡ first_bot c.args.profile ∷ [] = c.push.ensures.items ∙ λ i. c.new-bots.ensures i ++ record { bid = 1; pos = record { x = 0; y = 0; z = 0 }; seeds = c.first_seeds.ensures i } ∷ [] in
    subst (λ v. IsCrew v) (sym one) (first_crew c.args.profile c.requires)
