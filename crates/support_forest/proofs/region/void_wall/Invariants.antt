use Rattle.std.proofs.Common.{◌+◌, ◌-◌, ◌*◌, ◌≤◌}
use Rattle.vox_planes.specs.Walk.{row_size}
use Rattle.support_forest.specs.Regions.{AreVoided, IsInWall}
use Rattle.support_forest.proofs.region.void_wall.Given as goal

abbrev pub invariant-loop-y : goal.invariant-loop-y
invariant-loop-y g l = (l.b.low.y ≤ l.y) × ((l.y ≤ l.b.high.y + 1) × ((l.steps ≤ l.initial.steps + 40 * ((l.b.high.y + 1 - l.y) * row_size l.b))
    × AreVoided l.initial.cells l.cells (IsInWall l.b l.x l.y) ((l.b.high.y + 1 - l.y) * row_size l.b) l.initial.rest.items l.rest.items))

abbrev pub decreases-loop-y : goal.decreases-loop-y
decreases-loop-y g l = l.y
