use Rattle.std.proofs.Common.{sym, ◌∙◌, ap, subst, arith}
use Rattle.std.proofs.lemmas.Result.{IfOk-weaker}
use Rattle.nano_spec.specs.Legal.{IsLegal}
use Rattle.nano_spec.specs.Matrix.{Matrix, is_full}
use Rattle.nano_spec.specs.Profile.{light_profile}
use Rattle.plan_tape.proofs.Closing.{accepted_to}
use Rattle.swarm_planner.proofs.Legality.{wide_enough}
use Rattle.swarm_planner.proofs.Phases.{layers_fit, total}
use Rattle.swarm_planner.proofs.plan.plan_from.Goals as goal

pub open-requires-clause-some : goal.open-requires-clause-some
open-requires-clause-some c =
    let required = c.requires in
    let wide_enough_here = wide_enough c.args.target.now c.args.nothing required.target c.recall-2.ensures.whole c.recall.ensures.whole required.same required.void required.differ in
    let same = required.same in
    omega (arith, wide_enough_here, same)

pub close-requires-clause-legal : goal.close-requires-clause-legal
close-requires-clause-legal c = subst IsLegal (sym c.in_ok-erect.ensures.erected.matrix) c.requires.target

pub close-requires-clause-limit : goal.close-requires-clause-limit
close-requires-clause-limit c =
    let most = c.recall-2.ensures.whole.most in
    let steps = c.in_ok-erect.ensures.erected.steps_are in
    omega (arith, steps, most, layers_fit c.args.target.now.resolution most)

pub returns-clause-accepted : goal.returns-clause-accepted
returns-clause-accepted c =
    let tape_after_erect = c.erect.new.tape in
    let erect_ensured = c.in_ok-erect.ensures in
    accepted_to c.close.result tape_after_erect.source c.args.nothing tape_after_erect.matrix c.args.target.now tape_after_erect.profile light_profile (erect_ensured.source ∙ c.in_ok-tape.ensures.source) (λ q. ap (λ (m : Matrix). is_full m q) erect_ensured.erected.matrix) erect_ensured.erected.swarm.light c.close.ensures.accepted

pub returns-clause-few : goal.returns-clause-few
returns-clause-few c = IfOk-weaker c.close.result _ _ (λ plan k. c.seeds_bound_the_bots.ensures c.args.nothing light_profile plan.commands c.recall.ensures.whole k) c.close.ensures.are_commands

pub returns-clause-steps : goal.returns-clause-steps
returns-clause-steps c =
    let steps = c.in_ok-erect.ensures.erected.steps_are in
    let most = total c.args.target.now.resolution c.recall-2.ensures.whole.some in
    IfOk-weaker c.close.result _ _ (λ plan e. omega (arith, e, steps, most)) c.close.ensures.steps
