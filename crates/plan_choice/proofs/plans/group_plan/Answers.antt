use Rattle.std.proofs.Common.{◌*◌, ◌≤◌, rules, length, subst, sym, ◌≡◌, ℤ, w64, to_z, of_z}
use Rattle.nano_spec.specs.declared.system.Profile.{Profile}
use Rattle.nano_spec.specs.Cutting.{AreCommands}
use Rattle.nano_spec.specs.Profile.{full_profile}
use Rattle.nano_spec.specs.Spelling.{spellings}
use Rattle.group_planner.specs.Bounds.{most_bytes, most_group_steps}
use Rattle.plan_tape.specs.Progress.{IsAccepted}
use Rattle.plan_tape.specs.Reaches.{HasAtMost}
use Rattle.plan_tape.specs.declared.tape.Plan.{Plan}
use Rattle.plan_choice.specs.Crew.{IsLeast}
use Rattle.plan_choice.specs.Planners.{IsGroupPlan}
use Rattle.plan_choice.proofs.Chosen.{alone_stays}
use Rattle.plan_choice.proofs.plans.group_plan.Goals as goal

pub returns-clause-plan : goal.returns-clause-plan
returns-clause-plan c =
    let source = c.args.source.now in
    let target = c.args.target.now in
    let it = c.in_ok-plan-3.plan in
    let few = c.in_ok-plan-2.ensures in
    let lowered = c.in_ok-plan-3.ensures in
    let two : HasAtMost source full_profile c.in_ok-plan-2.plan.commands c.group_bounds-most.result.bots = few.stands.bots (subst (λ n. HasAtMost source full_profile c.in_ok-plan.plan.commands n) (sym c.group_bounds-most.ensures.bots) c.in_ok-plan.ensures.few) in
    let low = lowered.stands.bots (subst (λ (p : Profile). HasAtMost source p c.in_ok-plan-2.plan.commands c.group_bounds-most.result.bots) (sym c.full-profile.ensures) two) in
    let steps : it.steps ≤ most_group_steps source target = search rules in
    let commands : length it.commands ≤ 2 * most_group_steps source target = search rules in
    let bytes : length (spellings it.commands) ≤ most_bytes source target = search rules in
    let its : IsGroupPlan source target it.commands it.energy it.steps = record {
      plan = record {
        are_commands = subst AreCommands c.as_slice.ensures c.recall_all.ensures;
        accepted = subst (λ (p : Profile). IsAccepted source target it.commands p it.energy it.steps) c.full-profile.ensures lowered.stands.accepted;
        few_bots = subst (λ n. HasAtMost source full_profile it.commands n) c.group_bounds-most.ensures.bots (subst (λ (p : Profile). HasAtMost source p it.commands c.group_bounds-most.result.bots) c.full-profile.ensures low);
        halt_alone = λ same. alone_stays _ _ (alone_stays _ _ (c.in_ok-plan.ensures.halt_alone same) few.alone) lowered.alone;
      };
      few_steps = steps;
      few_commands = commands;
      few_bytes = bytes;
    } in
    subst (λ (p : Plan). IsGroupPlan source target p.commands p.energy p.steps) (sym c.sought_below.ensures.plan) its

pub returns-clause-least : goal.returns-clause-least
returns-clause-least c =
    let same : to_z w64 (of_z w64 c.args.ceiling) ≡ c.args.ceiling = search rules in
    let found = c.sought_below.result in
    subst (λ (k : ℤ). IsLeast k found.plan.energy found.least.energy) same
    (subst (λ (p : Plan). IsLeast (to_z w64 (of_z w64 c.args.ceiling)) p.energy found.least.energy) (sym c.sought_below.ensures.plan) c.sought_below.ensures.least)
