use Rattle.swarm_planner.proofs.Building.{one_more_line}
use Rattle.swarm_planner.proofs.paint.paint_layer.Goals as goal

pub loop-x-preserved : goal.loop-x-preserved
loop-x-preserved c = record { builds = one_more_line c.args.tape.now c.loop-x.tape c.paint_line.new.tape c.args.target.now c.loop-x.x c.args.y c.loop-x.invariant.builds c.in_ok-paint_line.ensures }
