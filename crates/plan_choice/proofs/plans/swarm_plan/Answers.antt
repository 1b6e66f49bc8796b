use Rattle.std.proofs.Common.{◌≡◌, ◌∙◌, ◌+◌, ◌*◌, ◌≤◌, rules, ap, subst, sym, ℤ, w64, to_z, of_z}
use Rattle.nano_spec.specs.declared.system.Profile.{Profile}
use Rattle.nano_spec.specs.Cutting.{AreCommands}
use Rattle.nano_spec.specs.Matrix.{Matrix, empty}
use Rattle.nano_spec.specs.Profile.{light_profile}
use Rattle.nano_spec.proofs.EmptyModel.{empty_is_grounded}
use Rattle.plan_tape.specs.Progress.{IsAccepted}
use Rattle.plan_tape.specs.Reaches.{HasAtMost}
use Rattle.swarm_planner.specs.Bounds.{width}
use Rattle.plan_tape.specs.declared.tape.Plan.{Plan}
use Rattle.plan_choice.specs.Crew.{IsLeast}
use Rattle.plan_choice.specs.Planners.{IsSwarmPlan}
use Rattle.plan_choice.proofs.Chosen.{alone_stays}
use Rattle.plan_choice.proofs.plans.swarm_plan.Goals as goal

pub lower-requires : goal.lower-requires
lower-requires c =
    let target = c.args.target.now in
    let plan = c.in_ok-plan-2.plan in
    let void : c.in_ok-nothing.nothing ≡ empty target.resolution = c.in_ok-nothing.ensures.value ∙ ap empty c.resolution-2.ensures.value in
    record {
      grounded = empty_is_grounded c.in_ok-nothing.nothing c.resolution-2.result c.in_ok-nothing.ensures.value;
      resolution = search rules;
      seeds = search rules;
      accepted = subst (λ (m : Matrix). IsAccepted m target plan.commands c.light-profile.result plan.energy plan.steps) (sym void)
          (subst (λ (p : Profile). IsAccepted (empty target.resolution) target plan.commands p plan.energy plan.steps) (sym c.light-profile.ensures) c.in_ok-plan-2.ensures.stands.accepted);
    }

pub returns-clause-plan : goal.returns-clause-plan
returns-clause-plan c =
    let target = c.args.target.now in
    let it = c.in_ok-plan-3.plan in
    let squads = c.in_ok-plan-2.ensures in
    let lowered = c.in_ok-plan-3.ensures in
    let void : c.in_ok-nothing.nothing ≡ empty target.resolution = c.in_ok-nothing.ensures.value ∙ ap empty c.resolution-2.ensures.value in
    let few = squads.stands.bots c.in_ok-plan.ensures.few in
    let before = subst (λ (m : Matrix). HasAtMost m c.light-profile.result c.in_ok-plan-2.plan.commands 20) (sym void)
    (subst (λ (p : Profile). HasAtMost (empty target.resolution) p c.in_ok-plan-2.plan.commands 20) (sym c.light-profile.ensures) few) in
    let light = subst (λ (m : Matrix). IsAccepted m target it.commands light_profile it.energy it.steps) void
    (subst (λ (p : Profile). IsAccepted c.in_ok-nothing.nothing target it.commands p it.energy it.steps) c.light-profile.ensures lowered.stands.accepted) in
    let steps : it.steps ≤ 4 * width target.resolution * target.resolution * target.resolution + 8 * target.resolution + 2000 = search rules in
    let its : IsSwarmPlan (empty target.resolution) target it.commands it.energy it.steps = record {
      plan = record {
        are_commands = subst AreCommands c.as_slice.ensures c.recall_all.ensures;
        accepted = c.full_accepts_what_light_accepts.ensures (empty target.resolution) target it.commands it.energy it.steps light;
        few_bots = subst (λ (p : Profile). HasAtMost (empty target.resolution) p it.commands 20) c.light-profile.ensures
            (subst (λ (m : Matrix). HasAtMost m c.light-profile.result it.commands 20) void (lowered.stands.bots before));
        halt_alone = λ same. alone_stays _ _ (alone_stays _ _ (c.in_ok-plan.ensures.halt_alone (sym same)) squads.alone) lowered.alone;
      };
      accepted_as_light = light;
      few_steps = steps;
    } in
    subst (λ (p : Plan). IsSwarmPlan (empty target.resolution) target p.commands p.energy p.steps) (sym c.sought_below.ensures.plan) its

pub returns-clause-least : goal.returns-clause-least
returns-clause-least c =
    let same : to_z w64 (of_z w64 c.args.ceiling) ≡ c.args.ceiling = search rules in
    let found = c.sought_below.result in
    subst (λ (k : ℤ). IsLeast k found.plan.energy found.least.energy) same
    (subst (λ (p : Plan). IsLeast (to_z w64 (of_z w64 c.args.ceiling)) p.energy found.least.energy) (sym c.sought_below.ensures.plan) c.sought_below.ensures.least)
