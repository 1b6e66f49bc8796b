use Rattle.std.proofs.Common.{sym, ◌∙◌, ap, arith}
use Rattle.nano_spec.specs.Matrix.{Matrix}
use Rattle.swarm_planner.proofs.Phases.{can_build, erected, layers_fit, no_way_yet}
use Rattle.swarm_planner.proofs.plan.erect.Goals as goal

pub build-requires-clause-ready : goal.build-requires-clause-ready
build-requires-clause-ready c =
    let spread_ensured = c.in_ok-spread.ensures in
    can_build c.args.tape.now c.spread.new.tape 400 spread_ensured c.args.target.now (c.requires.same ∙ (sym (ap (λ (m : Matrix). m.resolution) c.requires.opened.matrix) ∙ sym (ap (λ (m : Matrix). m.resolution) spread_ensured.matrix)))

pub build-requires-clause-limit : goal.build-requires-clause-limit
build-requires-clause-limit c =
    let spread_ensured = c.in_ok-spread.ensures in
    let no_way = no_way_yet c.args.tape.now c.spread.new.tape 400 spread_ensured in
    let fits = layers_fit c.spread.new.tape.matrix.resolution spread_ensured.spread.most in
    let steps_are = spread_ensured.steps_are in
    let steps_are_required = c.requires.opened.steps_are in
    omega (arith, no_way, fits, steps_are, steps_are_required)

pub gather-requires-clause-limit : goal.gather-requires-clause-limit
gather-requires-clause-limit c =
    let spread_ensured = c.in_ok-spread.ensures in
    let no_way = no_way_yet c.args.tape.now c.spread.new.tape 400 spread_ensured in
    let fits = layers_fit c.spread.new.tape.matrix.resolution spread_ensured.spread.most in
    let steps_are = spread_ensured.steps_are in
    let steps_are_required = c.requires.opened.steps_are in
    let steps_are_of_build = c.in_ok-build.ensures.steps_are in
    omega (arith, no_way, fits, steps_are, steps_are_required, steps_are_of_build)

pub returns-clause-erected : goal.returns-clause-erected
returns-clause-erected c =
    erected c.args.tape.now c.spread.new.tape c.build.new.tape c.gather.new.tape c.args.target.now c.requires.opened.steps_are c.in_ok-spread.ensures c.requires.target c.recall_whole.ensures.whole c.recall.ensures.whole (c.requires.same ∙ sym (ap (λ (m : Matrix). m.resolution) c.requires.opened.matrix)) c.in_ok-build.ensures c.in_ok-gather.ensures
