use Rattle.std.proofs.Common.{◌+◌, ◌-◌, ◌*◌, ◌≤◌}
use Rattle.vox_planes.specs.Walk.{wall_size}
use Rattle.support_forest.specs.Regions.{AreVoided, IsInWalls}
use Rattle.support_forest.proofs.region.void_region.Given as goal

abbrev pub invariant-loop-x : goal.invariant-loop-x
invariant-loop-x g l = (l.b.low.x ≤ l.x) × ((l.x ≤ l.b.high.x + 1) × ((l.steps ≤ l.initial.steps + 40 * ((l.b.high.x + 1 - l.x) * wall_size l.b))
    × AreVoided l.initial.cells l.cells (IsInWalls l.b l.x) ((l.b.high.x + 1 - l.x) * wall_size l.b) l.initial.rest.items l.rest.items))

abbrev pub decreases-loop-x : goal.decreases-loop-x
decreases-loop-x g l = l.x
