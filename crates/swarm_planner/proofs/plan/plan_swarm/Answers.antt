use Rattle.std.proofs.Common.{◌∙◌, ap}
use Rattle.std.proofs.lemmas.Result.{IfOk-weaker}
use Rattle.nano_spec.specs.Matrix.{Matrix, empty, is_full}
use Rattle.nano_spec.specs.Profile.{light_profile}
use Rattle.plan_tape.proofs.Closing.{accepted_to}
use Rattle.swarm_planner.proofs.plan.plan_swarm.Goals as goal
use Rattle.plan_tape.proofs.LegalModels.{empty_is_void}
use Rattle.plan_tape.proofs.Lowest.{not_same}

pub plan_from-requires-clause-void : goal.plan_from-requires-clause-void
plan_from-requires-clause-void c = λ d l. ap (λ (m : Matrix). is_full m d) c.in_ok-nothing.ensures.value ∙ empty_is_void c.resolution.result d

pub plan_from-requires-clause-differ : goal.plan_from-requires-clause-differ
plan_from-requires-clause-differ c = not_same _ _ _ c.in-Some.ensures.found

pub returns-in_default-clause-light : goal.returns-in_default-clause-light
returns-in_default-clause-light c =
    let nothing = empty c.args.target.now.resolution in
    accepted_to c.halt_alone.result c.in_ok-nothing.nothing nothing c.in_ok-nothing.nothing c.args.target.now c.light.result light_profile (c.in_ok-nothing.ensures.value ∙ ap empty c.resolution.ensures.value) (λ q. ap (λ (m : Matrix). is_full m q) c.in_default.ensures.none) c.light.ensures c.halt_alone.ensures.accepted

pub returns-in_default-clause-full : goal.returns-in_default-clause-full
returns-in_default-clause-full c = IfOk-weaker c.halt_alone.result _ _ (λ plan light. c.full_accepts_what_light_accepts.ensures _ c.args.target.now plan.commands plan.energy plan.steps light) (returns-in_default-clause-light c)
