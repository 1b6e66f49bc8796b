use Rattle.std.proofs.Common.{refl, subst, sym}
use Rattle.nano_spec.specs.Matrix.{Matrix}
use Rattle.plan_choice.specs.Planners.{IsSwarmPlan, IsVoidPlan}
use Rattle.nanobot_rows.proofs.plans.choose_plan.Goals as goal

pub returns-in_ok-plan-in-Layer : goal.returns-in_ok-plan-in-Layer
returns-in_ok-plan-in-Layer c = rw c.in-Layer.is ((λ files. refl), λ takes. c.in_ok-plan-in-Layer.ensures)

pub returns-in_ok-plan-in-Crew : goal.returns-in_ok-plan-in-Crew
returns-in_ok-plan-in-Crew c = rw c.in-Crew.is ((λ files. refl), λ takes. c.in_ok-plan-in-Crew.ensures)

pub returns-in_ok-plan-in-Void : goal.returns-in_ok-plan-in-Void
returns-in_ok-plan-in-Void c =
    let found = c.in_ok-plan-in-Void in
    let it = found.plan in
    rw c.in-Void.is ((λ files. refl), λ takes. subst (λ (m : Matrix). IsVoidPlan c.args.source.now m it.commands it.energy it.steps) (sym takes) found.ensures)

pub returns-in-Low : goal.returns-in-Low
returns-in-Low c = rw c.in-Low.is (c.plan_low.ensures c.args.source.now)

pub returns-in_ok-plan-in-Swarm : goal.returns-in_ok-plan-in-Swarm
returns-in_ok-plan-in-Swarm c =
    let found = c.in_ok-plan-in-Swarm in
    let it = found.plan in
    rw c.in-Swarm.is ((λ files. refl), λ takes. subst (λ (m : Matrix). IsSwarmPlan m c.args.target.now it.commands it.energy it.steps) (sym takes) found.ensures)
