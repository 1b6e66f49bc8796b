use Rattle.std.proofs.Common.{◌+◌, ◌-◌, ◌≤◌}
use Rattle.support_forest.specs.Regions.{AreVoided, IsInRow}
use Rattle.support_forest.specs.Segments.{further}
use Rattle.support_forest.proofs.region.list_part.Given as goal

abbrev pub invariant-loop-left : goal.invariant-loop-left
invariant-loop-left g l = (l.left ≤ l.count) × ((l.steps ≤ l.initial.steps + (l.count - l.left)) × AreVoided l.cells l.cells (IsInRow (further l.first l.left) (l.count - l.left)) (l.count - l.left) l.initial.rest.items l.rest.items)

abbrev pub decreases-loop-left : goal.decreases-loop-left
decreases-loop-left g l = l.left
