use Rattle.std.proofs.Common.{◌≡◌, ◌∙◌, ◌≤◌, rules, ap, subst, sym, ℕ}
use Rattle.std.specs.Prelude.{Option, Some, None}
use Rattle.vox_geom.specs.declared.coordinate.Coord.{Coord}
use Rattle.nano_spec.specs.Matrix.{Matrix, empty}
use Rattle.nano_spec.specs.Profile.{full_profile}
use Rattle.low_planner.specs.declared.fault.LowFault.{LowFault}
use Rattle.low_planner.specs.declared.fault.LowFault.TheVariants.{Unsupported}
use Rattle.low_planner.specs.Fault.{HasCause}
use Rattle.plan_choice.specs.Planners.{IsLowPlan}
use Rattle.plan_choice.proofs.Crews.{either_crew, low_crew}
use Rattle.plan_choice.proofs.crew.or_low.Goals as goal

pub returns-in-Ok-clause-crew : goal.returns-in-Ok-clause-crew
returns-in-Ok-clause-crew c =
    let source = c.args.source.now in
    let target = c.args.target.now in
    let other = c.in-Ok.other.plan in
    let void : source ≡ c.in_ok-nothing.nothing = search rules in
    let is : source ≡ empty c.resolution.result = void ∙ c.in_ok-nothing.ensures.value in
    let here : source ≡ empty target.resolution = is ∙ ap empty (c.resolution.ensures.value ∙ c.requires.same) in
    let plan = subst (λ (m : Matrix). IsLowPlan m target other.commands other.energy other.steps) (sym here) c.in-Ok.ensures.plan in
    let few = c.seeds_bound_the_bots.ensures source full_profile other.commands c.recall.ensures.whole plan.plan.are_commands in
    let most : target.resolution ≤ 400 = subst (λ (r : ℕ). r ≤ 400) c.requires.same c.recall.ensures.whole.most in
    either_crew source target c.args.plan other c.compare.result.plan c.requires.crew (low_crew source target other most few plan) c.compare.ensures.either

none_or_some : (o : Option Coord) (at : Coord) → None ≡ Some at → ⊥
none_or_some o at e = cc

pub returns-in-Err-Unsupported-clause-as_low : goal.returns-in-Err-Unsupported-clause-as_low
returns-in-Err-Unsupported-clause-as_low c =
    let target = c.args.target.now in
    let found = c.in-Err-Unsupported in
    let is : found.field-0 ≡ Unsupported found.at = search rules in
    let cause = subst (λ (f : LowFault). HasCause target f) is found.ensures.unsupported in
    λ void supported. absurd (none_or_some None _ (c.one_unsupported.ensures target None (Some found.at) supported cause))
