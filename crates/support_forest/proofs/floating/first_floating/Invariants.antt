use Rattle.std.proofs.Common.{◌+◌, ◌*◌, ◌≤◌}
use Rattle.support_forest.specs.Grid.{NoneFloatsBelow}
use Rattle.support_forest.proofs.floating.first_floating.Given as goal

abbrev pub invariant-loop-row : goal.invariant-loop-row
invariant-loop-row g l = NoneFloatsBelow l.cells (l.row * l.cells.resolution)
    × (l.steps ≤ l.initial.steps + l.row * l.cells.resolution)
