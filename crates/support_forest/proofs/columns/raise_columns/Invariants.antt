use Rattle.std.proofs.Common.{◌+◌, ◌*◌, ◌≤◌, length}
use Rattle.support_forest.specs.Columns.{AreSupportedBits, IsScanned}
use Rattle.support_forest.proofs.columns.raise_columns.Given as goal

abbrev pub invariant-loop-y : goal.invariant-loop-y
invariant-loop-y g l = record {
  raised : IsScanned l.planes l.cells (262144 * l.x + 512 * l.z + 64 * l.y) l.rest.items;
  columns : AreSupportedBits l.planes l.x l.z l.count l.y l.supported;
  touches : l.steps + 20 * length l.rest.items ≤ l.initial.steps + 20 * length l.initial.rest.items + 21 * (l.y * l.count);
}
