use Rattle.std.proofs.Common.{◌≡◌, ◌∙◌, ◌≤◌, ℕ, rules, ap, subst, sym, ℤ, w64, to_z, of_z}
use Rattle.nano_spec.specs.Matrix.{Matrix, empty}
use Rattle.nano_spec.specs.Profile.{full_profile}
use Rattle.plan_choice.specs.Crew.{IsLeast}
use Rattle.plan_choice.specs.Planners.{IsSwarmPlan}
use Rattle.plan_choice.proofs.Crews.{either_crew, swarm_crew}
use Rattle.plan_choice.proofs.crew.or_swarm.Goals as goal

pub returns-clause-crew : goal.returns-clause-crew
returns-clause-crew c =
    let source = c.args.source.now in
    let target = c.args.target.now in
    let other = c.in_ok-other.other.plan in
    let void : source ≡ c.in_ok-nothing.nothing = search rules in
    let here : source ≡ empty target.resolution = void ∙ (c.in_ok-nothing.ensures.value ∙ ap empty (c.resolution.ensures.value ∙ c.requires.same)) in
    let plan = subst (λ (m : Matrix). IsSwarmPlan m target other.commands other.energy other.steps) (sym here) c.in_ok-other.ensures.plan in
    let few = c.seeds_bound_the_bots.ensures source full_profile other.commands c.recall.ensures.whole plan.plan.are_commands in
    let most : target.resolution ≤ 400 = subst (λ (r : ℕ). r ≤ 400) c.requires.same c.recall.ensures.whole.most in
    either_crew source target c.args.plan other c.compare.result.plan c.requires.crew (swarm_crew source target other most few plan) c.compare.ensures.either

pub compare-requires : goal.compare-requires
compare-requires c =
    let same : to_z w64 (of_z w64 c.args.plan.energy) ≡ c.args.plan.energy = search rules in
    let other = c.in_ok-other.other in
    subst (λ (k : ℤ). IsLeast k other.plan.energy other.least.energy) same c.in_ok-other.ensures.least
