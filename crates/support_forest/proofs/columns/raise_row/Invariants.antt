use Rattle.std.proofs.Common.{◌≡◌, ◌+◌, ◌-◌, ◌*◌, ◌%◌, ◌<◌, ◌≤◌, length}
use Rattle.support_forest.specs.Columns.{IsScanned, scan_index}
use Rattle.support_forest.proofs.columns.raise_row.Given as goal

abbrev pub invariant-loop-k : goal.invariant-loop-k
invariant-loop-k g l = record {
  within : l.k ≤ l.count;
  whole : l.k < l.count → (l.first.z + l.k) % 8 ≡ 0;
  raised : IsScanned l.planes l.cells (scan_index l.first + l.k) l.rest.items;
  touches : l.steps + 20 * length l.rest.items ≤ l.initial.steps + 20 * length l.initial.rest.items + 20 * l.k;
}

abbrev pub decreases-loop-k : goal.decreases-loop-k
decreases-loop-k g l = l.count - l.k
