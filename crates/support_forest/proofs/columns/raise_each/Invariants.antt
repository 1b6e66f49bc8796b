use Rattle.std.proofs.Common.{◌≡◌, ◌+◌, ◌*◌, ◌≤◌, Some, length}
use Rattle.support_forest.specs.Grid.{slot_of}
use Rattle.support_forest.specs.Columns.{IsScanned, scan_index}
use Rattle.support_forest.proofs.columns.raise_each.Given as goal

abbrev pub invariant-loop-k : goal.invariant-loop-k
invariant-loop-k g l = record {
  raised : IsScanned l.planes l.cells (scan_index l.first + l.k) l.rest.items;
  own : slot_of l.cells l.first ≡ Some l.own;
  touches : l.steps + 20 * length l.rest.items ≤ l.initial.steps + 20 * length l.initial.rest.items + 20 * l.k;
}
