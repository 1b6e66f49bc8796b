use Rattle.std.proofs.Common.{◌≡◌, ◌+◌, ◌*◌, ◌-◌, ◌≤◌, sym, ◌∙◌, ap, subst, arith, length}
use Rattle.vox_geom.specs.declared.coordinate.Coord.{Coord}
use Rattle.nano_spec.specs.Matrix.{Matrix, is_full}
use Rattle.nano_spec.specs.State.{origin}
use Rattle.plan_tape.specs.Leg.{moves_to}
use Rattle.plan_tape.specs.Progress.{spot, IsVoidFrom, top}
use Rattle.layer_planner.specs.Painting.{bytes_to, layer_bytes, sweep_steps_to}
use Rattle.layer_planner.specs.Phases.{end}
use Rattle.layer_planner.proofs.Bounds.{total, total_fits, way_down, way_up}
use Rattle.layer_planner.proofs.LeftAndBuilt.{left_alone, rebuilt_is, void_from}
use Rattle.layer_planner.proofs.Sweeps.{spent}
use Rattle.layer_planner.proofs.plan.rebuild.Goals as goal
use Rattle.vox_geom.specs.Point.{coord}
use Rattle.plan_tape.proofs.ClearWays.{moves_on, no_moves}
use Rattle.plan_tape.proofs.LegalModels.{alike_is_same, void_at_top}

pub clear-requires-clause-top : goal.clear-requires-clause-top
clear-requires-clause-top c = subst (λ (m : Matrix). IsVoidFrom m (m.resolution - 1)) (sym c.requires.risen.matrix) (void_at_top c.args.tape.now.source c.requires.source)

pub clear-requires-clause-ready : goal.clear-requires-clause-ready
clear-requires-clause-ready c =
    let risen = c.requires.risen in
    record {
      alone = ap length risen.bots_are;
      unsplit = risen.unsplit;
      high = risen.harmonics;
      full = risen.profile;
      same = c.requires.size ∙ sym (ap (λ (m : Matrix). m.resolution) risen.matrix);
      placed = risen.placed;
      here = risen.clear;
    }

pub returns-clause-rebuilt : goal.returns-clause-rebuilt
returns-clause-rebuilt c =
    let tape = c.args.tape.now in
    let tape_after_clear = c.clear.new.tape in
    let tape_after_build = c.build.new.tape in
    let risen = c.requires.risen in
    let clear_ensured = c.in_ok-clear.ensures in
    let build_ensured = c.in_ok-build.ensures in
    let er = ap (λ (m : Matrix). m.resolution) risen.matrix in
    let rt : tape_after_clear.matrix.resolution ≡ c.args.target.now.resolution = clear_ensured.resolution ∙ (er ∙ sym c.requires.same) in
    let ra : tape.matrix.resolution ≡ c.args.target.now.resolution = er ∙ sym c.requires.same in
    let resolution = c.args.target.now.resolution in
    let to : end c.args.target.now ≡ end tape_after_clear.matrix = ap (λ n. coord 0 n 0) (sym rt) in
    let start : moves_to (spot tape.bots) (top tape.matrix) ≡ 0 = ap (λ (s : Coord). moves_to s (top tape.matrix)) (ap spot risen.bots_are ∙ ap (λ n. coord 0 (n - 1) 0) (sym er)) ∙ no_moves (top tape.matrix) in
    let low = c.args.low in
    let on = moves_on (spot tape_after_clear.bots) (coord 0 low 0) (coord 0 (low + 1) 0) in
    let recall_whole = c.recall.ensures.whole in
    let up = way_up tape.source.resolution (omega (arith, recall_whole.some, c.requires.same)) in
    let bytes_most = subst (λ n. n ≤ resolution + 3 + 2 * ((resolution - 1) * layer_bytes resolution)) (sym (ap (bytes_to tape_after_build) to)) (spent (bytes_to tape_after_build (end tape_after_clear.matrix)) (bytes_to tape_after_clear (coord 0 low 0)) (bytes_to tape_after_clear (coord 0 (low + 1) 0)) (bytes_to tape (top tape.matrix)) tape.matrix.resolution tape_after_clear.matrix.resolution tape.source.resolution resolution build_ensured.bytes_are (omega arith) clear_ensured.bytes_are (let its_bytes_are = risen.bytes_are in omega (arith, start, its_bytes_are, up)) rt ra (sym c.requires.same)) in
    let steps_most = subst (λ n. n ≤ resolution + 3 + 2 * ((resolution - 1) * layer_bytes resolution)) (sym (ap (sweep_steps_to tape_after_build) to)) (spent (sweep_steps_to tape_after_build (end tape_after_clear.matrix)) (sweep_steps_to tape_after_clear (coord 0 low 0)) (sweep_steps_to tape_after_clear (coord 0 (low + 1) 0)) (sweep_steps_to tape (top tape.matrix)) tape.matrix.resolution tape_after_clear.matrix.resolution tape.source.resolution resolution build_ensured.steps_are (omega arith) clear_ensured.steps_are (let steps = risen.steps in omega (arith, start, steps, up)) rt ra (sym c.requires.same)) in
    let home = moves_on (spot tape_after_build.bots) (end c.args.target.now) origin in
    let down = way_down resolution recall_whole.some in
    record {
      matrix = alike_is_same tape_after_build.matrix c.args.target.now c.recall_whole.ensures.whole recall_whole (build_ensured.resolution ∙ rt) (λ e i. rebuilt_is tape_after_clear.matrix tape_after_build.matrix c.args.target.now low c.requires.target rt (let within = c.requires.lowest.within in omega (arith, within, er, clear_ensured.resolution)) (void_from tape.matrix tape_after_clear.matrix c.args.nothing.now low c.requires.nothing clear_ensured.painted) build_ensured.painted e);
      ready = build_ensured.ready;
      bytes_are = omega (arith, bytes_most, home, down, total resolution recall_whole.some, recall_whole.some);
      limit = omega (arith, steps_most, home, down, total_fits resolution recall_whole.some recall_whole.most, recall_whole.some);
    }

pub clear-requires-clause-low : goal.clear-requires-clause-low
clear-requires-clause-low c = let resolution_is = ap (λ (m : Matrix). m.resolution) c.requires.risen.matrix in let within = c.requires.lowest.within in omega (arith, resolution_is, within)

pub build-requires-clause-low : goal.build-requires-clause-low
build-requires-clause-low c = let resolution_is = ap (λ (m : Matrix). m.resolution) c.requires.risen.matrix in let within = c.requires.lowest.within in let resolution = c.in_ok-clear.ensures.resolution in omega (arith, resolution_is, within, resolution)

pub build-requires-clause-void : goal.build-requires-clause-void
build-requires-clause-void c = void_from c.args.tape.now.matrix c.clear.new.tape.matrix c.args.nothing.now c.args.low c.requires.nothing c.in_ok-clear.ensures.painted

pub build-requires-clause-below : goal.build-requires-clause-below
build-requires-clause-below c = λ d l. left_alone c.args.tape.now.matrix c.clear.new.tape.matrix c.args.nothing.now c.args.low c.in_ok-clear.ensures.painted d l ∙ (ap (λ (m : Matrix). is_full m d) c.requires.risen.matrix ∙ c.requires.lowest.below d l)

pub build-requires-clause-limit : goal.build-requires-clause-limit
build-requires-clause-limit c =
    let tape = c.args.tape.now in
    let tape_after_clear = c.clear.new.tape in
    let risen = c.requires.risen in
    let clear_ensured = c.in_ok-clear.ensures in
    let er = ap (λ (m : Matrix). m.resolution) risen.matrix in
    let ra : tape.matrix.resolution ≡ c.args.target.now.resolution = er ∙ sym c.requires.same in
    let rb : tape_after_clear.matrix.resolution ≡ c.args.target.now.resolution = clear_ensured.resolution ∙ ra in
    let low = c.args.low in
    let start : moves_to (spot tape.bots) (top tape.matrix) ≡ 0 = ap (λ (s : Coord). moves_to s (top tape.matrix)) (ap spot risen.bots_are ∙ ap (λ n. coord 0 (n - 1) 0) (sym er)) ∙ no_moves (top tape.matrix) in
    let on = moves_on (spot tape_after_clear.bots) (coord 0 low 0) (coord 0 (low + 1) 0) in
    let recall_whole = c.recall.ensures.whole in
    let shifted = sweep_steps_to tape_after_clear (coord 0 (low + 1) 0) in
    let most = spent (shifted + (tape_after_clear.matrix.resolution - 1) * layer_bytes tape_after_clear.matrix.resolution) (sweep_steps_to tape_after_clear (coord 0 low 0)) shifted (sweep_steps_to tape (top tape.matrix)) tape.matrix.resolution tape_after_clear.matrix.resolution tape.source.resolution c.args.target.now.resolution (omega arith) (omega arith) clear_ensured.steps_are (let steps = risen.steps in omega (arith, start, steps, way_up tape.source.resolution (omega (arith, recall_whole.some, c.requires.same)))) rb ra (sym c.requires.same) in
    omega (arith, most, total_fits c.args.target.now.resolution recall_whole.some recall_whole.most)
