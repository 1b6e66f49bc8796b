use Rattle.std.proofs.Common.{◌+◌, ◌-◌, ◌∙◌, ap, false}
use Rattle.std.proofs.lemmas.Result.{on_ok_weaker}
use Rattle.nano_spec.specs.Matrix.{Matrix}
use Rattle.step_order.specs.Acting.{with_region}
use Rattle.plan_tape.specs.Progress.{spot}
use Rattle.void_planner.specs.Square.{Clears, FourVoid}
use Rattle.void_planner.specs.Tiles.{IsVoidTile, far_of, tile}
use Rattle.void_planner.proofs.Sweeps.{tile_cleared}
use Rattle.void_planner.proofs.sweep.void_tile.Goals as goal
use Rattle.vox_geom.specs.Point.{coord}

cleared : (c : goal.After-void_below) → FourVoid c.go.new.tape c.void_below.new.tape c.far-far.result (tile
    c.far-far.result (coord (spot c.go.new.tape.bots).x ((spot c.go.new.tape.bots).y - 1) (spot c.go.new.tape.bots).z))
    (with_region c.go.new.tape.matrix (tile c.far-far.result
    (coord (spot c.go.new.tape.bots).x ((spot c.go.new.tape.bots).y - 1) (spot c.go.new.tape.bots).z)) false) → Clears
    c.args.tape.now c.void_below.new.tape (coord c.args.x (c.args.y + 1) c.args.z)
    (coord c.args.x (c.args.y + 1) c.args.z) 1
    × IsVoidTile c.void_below.new.tape.matrix (far_of c.args.tape.now.matrix.resolution) c.args.x c.args.y c.args.z
cleared c v = tile_cleared c.args.tape.now c.go.new.tape c.void_below.new.tape c.args.x c.args.y c.args.z c.far-far.result (c.far-far.ensures ∙ ap far_of (c.resolution.ensures.value ∙ ap (λ (m : Matrix). m.resolution) c.matrix-2.ensures.value)) c.in_ok-go.ensures v

pub returns-clause-clears : goal.returns-clause-clears
returns-clause-clears c = on_ok_weaker c.void_below.result (λ (v : FourVoid c.go.new.tape c.void_below.new.tape c.far-far.result _ _). (cleared c v).0) c.void_below.ensures

pub returns-clause-void : goal.returns-clause-void
returns-clause-void c = on_ok_weaker c.void_below.result (λ (v : FourVoid c.go.new.tape c.void_below.new.tape c.far-far.result _ _). (cleared c v).1) c.void_below.ensures
