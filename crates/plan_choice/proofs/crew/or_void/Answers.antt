use Rattle.std.proofs.Common.{◌≡◌, ◌∙◌, rules, ap, subst, sym}
use Rattle.nano_spec.specs.Matrix.{Matrix, empty}
use Rattle.plan_choice.specs.Planners.{IsVoidPlan}
use Rattle.plan_choice.proofs.Crews.{either_crew, void_crew}
use Rattle.plan_choice.proofs.crew.or_void.Goals as goal

pub returns-clause-crew : goal.returns-clause-crew
returns-clause-crew c =
    let source = c.args.source.now in
    let target = c.args.target.now in
    let other = c.in_ok-other.other.plan in
    let void : target ≡ c.in_ok-nothing.nothing = search rules in
    let there : target ≡ empty source.resolution = void ∙ (c.in_ok-nothing.ensures.value ∙ ap empty (c.resolution.ensures.value ∙ sym c.requires.same)) in
    let plan = subst (λ (m : Matrix). IsVoidPlan source m other.commands other.energy other.steps) (sym there) c.in_ok-other.ensures.plan in
    either_crew source target c.args.plan other c.compare.result.plan c.requires.crew (void_crew source target other c.recall.ensures.whole.most plan) c.compare.ensures.either
