use Rattle.std.proofs.Common.{◌+◌, ◌*◌, ◌≤◌}
use Rattle.support_forest.proofs.Searching.{NoneFloatsTo}
use Rattle.support_forest.proofs.floating.first_in_row.Given as goal

abbrev pub invariant-loop-part : goal.invariant-loop-part
invariant-loop-part g l = NoneFloatsTo l.cells l.start (l.part * 8) × (l.steps ≤ l.initial.steps + l.part * 8)
    × (l.steps ≤ l.initial.steps + l.cells.resolution)
