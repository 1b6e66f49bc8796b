use Rattle.std.proofs.Common.{rules, ◌≡◌, subst, w64, to_z, of_z}
use Rattle.std.specs.Prelude.{ℤ, Option, IfSome, List}
use Rattle.nano_spec.specs.declared.commands.Command.{Command}
use Rattle.plan_tape.specs.Progress.{IsAccepted}
use Rattle.plan_choice.specs.declared.choice.Price.{Price}
use Rattle.plan_choice.specs.Better.{IsBetter}
use Rattle.plan_choice.proofs.Chosen.{taken}
use Rattle.plan_choice.proofs.choice.cheaper.Goals as goal

pub returns-clause-stands : goal.returns-clause-stands
returns-clause-stands c =
    let energy : to_z w64 (of_z w64 c.args.plan.energy) ≡ c.args.plan.energy = search rules in
    let paid : to_z w64 (of_z w64 c.in-Some.cost.energy) ≡ c.in-Some.cost.energy = search rules in
    taken c.args.source.now c.args.target.now c.args.profile c.args.most c.args.plan c.args.proposal c.in-Some.cost (to_z w64 (of_z w64 c.in-Some.cost.energy)) paid
    (subst (λ (ks : List Command). IsAccepted c.args.source.now c.args.target.now ks c.args.profile c.in-Some.cost.energy c.in-Some.cost.steps) c.as_slice.ensures
    (subst (λ (o : Option Price). IfSome o (λ cost. IsAccepted c.args.source.now c.args.target.now c.as_slice.result.now c.args.profile cost.energy cost.steps)) c.in-Some.is c.in_ok-better.ensures.accepted))
    (subst (λ (ks : List Command). IsBetter c.args.plan.energy c.args.most ks c.in-Some.cost.energy c.in-Some.cost.steps) c.as_slice.ensures
    (subst (λ (z : ℤ). IsBetter z c.args.most c.as_slice.result.now c.in-Some.cost.energy c.in-Some.cost.steps) energy
    (subst (λ (o : Option Price). IfSome o (λ cost. IsBetter (to_z w64 (of_z w64 c.args.plan.energy)) c.args.most c.as_slice.result.now cost.energy cost.steps)) c.in-Some.is c.in_ok-better.ensures.within)))
