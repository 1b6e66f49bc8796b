use Rattle.std.proofs.Common.{◌≡◌, true, refl, arith}
use Rattle.std.proofs.lemmas.Result.{on_ok_weaker}
use Rattle.nano_spec.specs.declared.commands.Command.TheVariants.{Fill}
use Rattle.nano_spec.specs.Matrix.{is_full}
use Rattle.vox_planes.specs.Voxel.{with_voxel}
use Rattle.plan_tape.specs.Progress.{Writes, beside}
use Rattle.floor_planner.proofs.Sweeping.{filled_one, place_above, room_left, skipped, ways_above}
use Rattle.floor_planner.proofs.sweep.fill_voxel.Goals as goal
use Rattle.vox_geom.specs.Point.{coord, down}

pub returns-then-not-is_full : goal.returns-then-not-is_full
returns-then-not-is_full c = skipped c.args.tape.now c.args.target.now c.args.x c.args.z c.requires.flat c.requires.swept cc

pub go-requires-clause-ways : goal.go-requires-clause-ways
go-requires-clause-ways c = ways_above c.args.tape.now c.args.target.now c.args.x c.args.z c.requires.flat c.requires.swept

pub fill-requires-clause-limit : goal.fill-requires-clause-limit
fill-requires-clause-limit c =
    let target = c.args.target.now in
    let at = place_above target.resolution target c.args.x c.args.z c.requires.legal refl cc in
    let room = room_left c.args.tape.now target c.args.x c.args.z (coord c.args.x 1 c.args.z) c.requires.swept (omega arith) (omega arith) c.recall.ensures.whole.most at in
    let way = c.in_ok-go.ensures.ok.steps in
    omega arith

pub returns : goal.returns
returns c =
    let self_after_go = c.go.new.self in
    let target = c.args.target.now in
    let wanted : is_full target (coord c.args.x 0 c.args.z) ≡ true = cc in
    on_ok_weaker c.fill.result
    (λ (w : Writes self_after_go c.fill.new.self (Fill c.down.result) (with_voxel self_after_go.matrix (beside self_after_go c.down.result) true) self_after_go.harmonics self_after_go.bots _).
    filled_one c.args.tape.now self_after_go c.fill.new.self target (Fill down) _ c.args.x c.args.z c.requires.legal c.requires.flat c.recall.ensures.whole.most c.requires.swept wanted c.in_ok-go.ensures.ok (rw c.down.ensures at w))
    c.fill.ensures.ok
