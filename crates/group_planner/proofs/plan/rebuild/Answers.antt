use Rattle.std.proofs.Common.{sym, ◌∙◌, ap, arith}
use Rattle.nano_spec.specs.Matrix.{Matrix}
use Rattle.group_planner.specs.Stamping.{steps_below}
use Rattle.group_planner.proofs.Closing.{plan_fits}
use Rattle.group_planner.proofs.Layers.{model_sum}
use Rattle.group_planner.proofs.Rebuilt.{can_clear, rebuilt, top_climb}
use Rattle.group_planner.proofs.plan.rebuild.Goals as goal

pub clear-requires-clause-ready : goal.clear-requires-clause-ready
clear-requires-clause-ready c = can_clear c.args.tape.now c.args.source.now c.requires.opened c.requires.source c.requires.legal_source

pub clear-requires-clause-limit : goal.clear-requires-clause-limit
clear-requires-clause-limit c =
    let tape = c.args.tape.now in
    let source = c.args.source.now in
    let same = ap (λ (m : Matrix). m.resolution) (c.requires.opened.matrix ∙ c.requires.source) in
    let top = top_climb tape source c.requires.opened c.requires.source in
    let sum = ap (steps_below source) same ∙ model_sum source in
    let fits = plan_fits source c.args.target.now c.recall.ensures.whole.most c.requires.same in
    omega (arith, same, top, sum, fits)

pub build-requires-clause-limit : goal.build-requires-clause-limit
build-requires-clause-limit c =
    let tape = c.args.tape.now in
    let tape_after_clear = c.clear.new.tape in
    let source = c.args.source.now in
    let target = c.args.target.now in
    let same = ap (λ (m : Matrix). m.resolution) (c.requires.opened.matrix ∙ c.requires.source) in
    let clear_ensured = c.in_ok-clear.ensures in
    let now = clear_ensured.stamps.resolution in
    let top = top_climb tape source c.requires.opened c.requires.source in
    let sum = ap (steps_below source) same ∙ model_sum source in
    let more = ap (steps_below target) (now ∙ (same ∙ sym c.requires.same)) ∙ model_sum target in
    let fits = plan_fits source target c.recall.ensures.whole.most c.requires.same in
    let climb = clear_ensured.climb in
    omega (arith, same, now, top, sum, more, fits, climb)

pub returns : goal.returns
returns c =
    let clear_ensured = c.in_ok-clear.ensures in
    let build_ensured = c.in_ok-build.ensures in
    rebuilt c.args.tape.now c.clear.new.tape c.build.new.tape c.args.source.now c.args.target.now c.args.low c.requires.opened c.requires.source c.requires.legal_target c.recall_whole.ensures.whole c.recall-2.ensures.whole c.requires.same c.requires.lowest clear_ensured.stamps clear_ensured.climb build_ensured.stamps build_ensured.steps
