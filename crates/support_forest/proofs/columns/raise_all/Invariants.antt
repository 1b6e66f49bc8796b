use Rattle.std.proofs.Common.{◌+◌, ◌*◌, ◌≤◌, length}
use Rattle.support_forest.specs.Columns.{IsScanned}
use Rattle.support_forest.proofs.columns.raise_all.Given as goal

abbrev pub invariant-loop-x : goal.invariant-loop-x
invariant-loop-x g l = record {
  raised : IsScanned l.planes l.cells (262144 * l.x) l.rest.items;
  touches : l.steps + 20 * length l.rest.items
      ≤ l.initial.steps + 20 * length l.initial.rest.items + 21 * (l.x * (l.planes.resolution * l.planes.resolution));
}
