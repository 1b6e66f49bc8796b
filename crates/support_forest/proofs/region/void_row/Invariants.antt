use Rattle.std.proofs.Common.{◌+◌, ◌-◌, ◌*◌, ◌≤◌}
use Rattle.support_forest.specs.Regions.{AreVoided, IsInRow}
use Rattle.support_forest.proofs.Voiding.{row_at}
use Rattle.support_forest.proofs.region.void_row.Given as goal

abbrev pub invariant-loop-left : goal.invariant-loop-left
invariant-loop-left g l = (l.first.z ≤ l.left) × ((l.left ≤ l.end) × ((l.steps ≤ l.initial.steps + 40 * (l.end - l.left))
    × AreVoided l.initial.cells l.cells (IsInRow (row_at l.first l.left) (l.end - l.left)) (l.end - l.left) l.initial.rest.items l.rest.items))

abbrev pub decreases-loop-left : goal.decreases-loop-left
decreases-loop-left g l = l.left
