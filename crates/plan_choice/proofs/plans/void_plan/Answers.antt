use Rattle.std.proofs.Common.{◌≡◌, ◌≤◌, rules, subst, sym, ℤ, w64, to_z, of_z}
use Rattle.nano_spec.specs.declared.system.Profile.{Profile}
use Rattle.nano_spec.specs.Cutting.{AreCommands}
use Rattle.nano_spec.specs.Matrix.{Matrix, empty}
use Rattle.nano_spec.specs.Profile.{full_profile}
use Rattle.plan_tape.specs.Progress.{IsAccepted}
use Rattle.plan_tape.specs.Reaches.{HasAtMost}
use Rattle.void_planner.specs.Bounds.{most_void_steps}
use Rattle.plan_tape.specs.declared.tape.Plan.{Plan}
use Rattle.plan_choice.specs.Crew.{IsLeast}
use Rattle.plan_choice.specs.Planners.{IsVoidPlan}
use Rattle.plan_choice.proofs.Chosen.{alone_stays}
use Rattle.plan_choice.proofs.plans.void_plan.Goals as goal

pub returns-clause-plan : goal.returns-clause-plan
returns-clause-plan c =
    let source = c.args.source.now in
    let first = c.in_ok-plan.plan in
    let it = c.in_ok-plan-3.plan in
    let lowered = c.in_ok-plan-2.ensures in
    let slabs = c.in_ok-plan-3.ensures in
    let void : c.in_ok-nothing.nothing ≡ empty source.resolution = search rules in
    let four = subst (λ (p : Profile). HasAtMost source p first.commands 4) (sym c.full-profile.ensures) c.in_ok-plan.ensures.few in
    let steps : it.steps ≤ most_void_steps source.resolution = search rules in
    let its : IsVoidPlan source (empty source.resolution) it.commands it.energy it.steps = record {
      plan = record {
        are_commands = subst AreCommands c.as_slice.ensures c.recall_all.ensures;
        accepted = subst (λ (m : Matrix). IsAccepted source m it.commands full_profile it.energy it.steps) void slabs.stands.accepted;
        few_bots = slabs.stands.bots (subst (λ (p : Profile). HasAtMost source p c.in_ok-plan-2.plan.commands 4) c.full-profile.ensures (lowered.stands.bots four));
        halt_alone = λ same. alone_stays _ _ (alone_stays _ _ (c.in_ok-plan.ensures.halt_alone same) lowered.alone) slabs.alone;
      };
      few_steps = steps;
    } in
    subst (λ (p : Plan). IsVoidPlan source (empty source.resolution) p.commands p.energy p.steps) (sym c.sought_below.ensures.plan) its

pub returns-clause-least : goal.returns-clause-least
returns-clause-least c =
    let same : to_z w64 (of_z w64 c.args.ceiling) ≡ c.args.ceiling = search rules in
    let found = c.sought_below.result in
    subst (λ (k : ℤ). IsLeast k found.plan.energy found.least.energy) same
    (subst (λ (p : Plan). IsLeast (to_z w64 (of_z w64 c.args.ceiling)) p.energy found.least.energy) (sym c.sought_below.ensures.plan) c.sought_below.ensures.least)
