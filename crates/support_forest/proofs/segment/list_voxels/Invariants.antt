use Rattle.std.proofs.Common.{◌-◌, ℕ, ◌+◌, ◌*◌, ◌≤◌}
use Rattle.support_forest.specs.Grid.{Grid}
use Rattle.support_forest.specs.Segments.{VoidsMore}
use Rattle.support_forest.proofs.segment.list_voxels.Given as goal

abbrev pub invariant-loop-left : goal.invariant-loop-left
invariant-loop-left l = (l.start ≤ l.left) × ((l.left ≤ l.end) × ((now : Grid) (steps : ℕ) → VoidsMore now now l.gone l.end l.left l.initial.rest.items l.rest.items steps (steps + 6 * (l.end - l.left))))

abbrev pub decreases-loop-left : goal.decreases-loop-left
decreases-loop-left l = l.left
