use Rattle.std.proofs.Common.{◌≡◌, ◌+◌, ◌-◌, ◌*◌, ◌%◌, ◌≤◌, length}
use Rattle.support_forest.specs.Columns.{IsScanned}
use Rattle.support_forest.proofs.columns.raise_wall.Given as goal

abbrev pub invariant-loop-z : goal.invariant-loop-z
invariant-loop-z g l = record {
  whole : l.z % 64 ≡ 0;
  most : l.z ≤ 512;
  raised : IsScanned l.planes l.cells (262144 * l.x + 512 * l.z) l.rest.items;
  touches : l.steps + 20 * length l.rest.items + 21 * (l.planes.resolution * (l.planes.resolution - l.z))
      ≤ l.initial.steps + 20 * length l.initial.rest.items + 21 * (l.planes.resolution * l.planes.resolution);
}

abbrev pub decreases-loop-z : goal.decreases-loop-z
decreases-loop-z g l = l.r - l.z
