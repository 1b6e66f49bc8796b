use Rattle.std.proofs.Common.{◌≡◌, ◌+◌, false}
use Rattle.std.proofs.lemmas.Result.{on_ok_weaker}
use Rattle.swarm_planner.specs.Building.{Fills, are_wanted}
use Rattle.swarm_planner.specs.Strips.{strip_row}
use Rattle.swarm_planner.proofs.Building.{cell_already, cell_built}
use Rattle.swarm_planner.proofs.paint.paint_cell.Goals as goal
use Rattle.vox_geom.specs.Point.{coord}

pub returns-then-not-has_wanted : goal.returns-then-not-has_wanted
returns-then-not-has_wanted c =
    let tape = c.args.tape.now in
    let none : are_wanted tape.matrix c.args.target.now (strip_row tape.matrix.resolution (coord c.args.x (c.args.y + 1) c.args.z)) ≡ false = let has_wanted_ensured = c.has_wanted.ensures in let not_has_wanted = c.if-not-has_wanted.true in cc in
    cell_already tape c.args.target.now c.args.x c.args.y c.args.z c.requires.ready none

pub returns : goal.returns
returns c =
    on_ok_weaker c.fill_below.result
    (λ (f : Fills c.go.new.tape c.fill_below.new.tape c.args.target.now).
    cell_built c.args.tape.now c.go.new.tape c.fill_below.new.tape c.args.target.now c.args.x c.args.y c.args.z c.requires.ready c.in_ok-go.ensures f)
    c.fill_below.ensures
