use Rattle.std.proofs.Common.{◌+◌, ◌*◌, ◌≤◌, rules, length, subst, sym, ◌≡◌, ℤ, w64, to_z, of_z}
use Rattle.nano_spec.specs.declared.system.Profile.{Profile}
use Rattle.nano_spec.specs.Cutting.{AreCommands}
use Rattle.nano_spec.specs.Spelling.{spellings}
use Rattle.plan_tape.specs.Reaches.{HasAtMost}
use Rattle.plan_tape.specs.declared.tape.Plan.{Plan}
use Rattle.plan_choice.specs.Crew.{IsLeast}
use Rattle.plan_choice.specs.Planners.{IsLayerPlan}
use Rattle.plan_choice.proofs.Chosen.{alone_stays}
use Rattle.plan_choice.proofs.OwnLayer.{eight_each}
use Rattle.plan_choice.proofs.plans.layer_plan.Goals as goal

pub returns-clause-plan : goal.returns-clause-plan
returns-clause-plan c =
    let source = c.args.source.now in
    let target = c.args.target.now in
    let first = c.in_ok-plan.plan in
    let it = c.in_ok-plan-4.plan in
    let lowered = c.in_ok-plan-2.ensures in
    let attached = c.in_ok-plan-3.ensures in
    let few = c.in_ok-plan-4.ensures in
    let one = subst (λ (p : Profile). HasAtMost source p first.commands 1) (sym c.full-profile.ensures) c.in_ok-plan.ensures.few in
    let short : length (spellings it.commands) ≤ 8 * source.resolution * source.resolution * source.resolution + 200 = search rules in
    let its : IsLayerPlan source target it.commands it.energy it.steps = record {
      plan = record {
        are_commands = subst AreCommands c.as_slice.ensures c.recall_all.ensures;
        accepted = few.stands.accepted;
        few_bots = few.stands.bots (subst (λ (p : Profile). HasAtMost source p c.in_ok-plan-3.plan.commands 1) c.full-profile.ensures (attached.stands.bots (lowered.stands.bots one)));
        halt_alone = λ same. alone_stays _ _ (alone_stays _ _ (alone_stays _ _ (c.in_ok-plan.ensures.halt_alone same) lowered.alone) attached.alone) few.alone;
      };
      bytes = eight_each source.resolution (length (spellings it.commands)) short;
    } in
    subst (λ (p : Plan). IsLayerPlan source target p.commands p.energy p.steps) (sym c.sought_below.ensures.plan) its

pub returns-clause-least : goal.returns-clause-least
returns-clause-least c =
    let same : to_z w64 (of_z w64 c.args.ceiling) ≡ c.args.ceiling = search rules in
    let found = c.sought_below.result in
    subst (λ (k : ℤ). IsLeast k found.plan.energy found.least.energy) same
    (subst (λ (p : Plan). IsLeast (to_z w64 (of_z w64 c.args.ceiling)) p.energy found.least.energy) (sym c.sought_below.ensures.plan) c.sought_below.ensures.least)
