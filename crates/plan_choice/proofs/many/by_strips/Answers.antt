use Rattle.std.proofs.Common.{subst}
use Rattle.nano_spec.specs.declared.system.Profile.{Profile}
use Rattle.plan_choice.specs.Better.{MayStandFor}
use Rattle.plan_choice.proofs.Chosen.{in_turn}
use Rattle.plan_choice.proofs.many.by_strips.Goals as goal

pub returns-clause-stands : goal.returns-clause-stands
returns-clause-stands c =
    subst (λ (p : Profile). MayStandFor c.args.source.now c.args.target.now p c.args.most c.args.plan c.in_ok-plan-3.plan) c.full-profile.ensures
    (in_turn _ _ _ _ _ _ _ c.in_ok-plan-2.ensures c.in_ok-plan-3.ensures)
