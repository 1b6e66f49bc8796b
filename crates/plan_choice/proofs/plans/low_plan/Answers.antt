use Rattle.std.proofs.Common.{◌+◌, ◌*◌, ◌≤◌, rules, subst, sym, ◌≡◌, ℤ, w64, to_z, of_z}
use Rattle.nano_spec.specs.Cutting.{AreCommands}
use Rattle.nano_spec.specs.Matrix.{empty, full_count}
use Rattle.nano_spec.specs.Model.{volume}
use Rattle.low_planner.specs.Commands.{IsEmpty}
use Rattle.plan_tape.proofs.LegalModels.{empty_is_void}
use Rattle.plan_tape.specs.declared.tape.Plan.{Plan}
use Rattle.plan_choice.specs.Crew.{IsLeast}
use Rattle.plan_choice.specs.Planners.{IsLowPlan}
use Rattle.plan_choice.proofs.Chosen.{alone_stays}
use Rattle.plan_choice.proofs.plans.low_plan.Goals as goal

pub returns-clause-plan : goal.returns-clause-plan
returns-clause-plan c =
    let target = c.args.target.now in
    let first = c.in_ok-plan.ensures in
    let it = c.in_ok-plan-2.plan in
    let attached = c.in_ok-plan-2.ensures in
    let steps : it.steps ≤ 4 * full_count target + volume target.resolution + 200 = search rules in
    let its : IsLowPlan (empty target.resolution) target it.commands it.energy it.steps = record {
      plan = record {
        are_commands = subst AreCommands c.as_slice.ensures c.recall_all.ensures;
        accepted = c.full_accepts_what_light_accepts.ensures (empty target.resolution) target it.commands it.energy it.steps attached.stands.accepted;
        few_bots = attached.stands.bots first.few;
        halt_alone = λ same. alone_stays _ _ (first.halt_alone (subst IsEmpty same (empty_is_void target.resolution))) attached.alone;
      };
      accepted_as_light = attached.stands.accepted;
      plain = attached.plain first.plain;
      few_steps = steps;
    } in
    subst (λ (p : Plan). IsLowPlan (empty target.resolution) target p.commands p.energy p.steps) (sym c.sought_below.ensures.plan) its

pub returns-clause-least : goal.returns-clause-least
returns-clause-least c =
    let same : to_z w64 (of_z w64 c.args.ceiling) ≡ c.args.ceiling = search rules in
    let found = c.sought_below.result in
    subst (λ (k : ℤ). IsLeast k found.plan.energy found.least.energy) same
    (subst (λ (p : Plan). IsLeast (to_z w64 (of_z w64 c.args.ceiling)) p.energy found.least.energy) (sym c.sought_below.ensures.plan) c.sought_below.ensures.least)
