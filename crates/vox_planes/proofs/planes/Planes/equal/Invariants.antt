use Rattle.std.proofs.Common.{◌+◌, ◌*◌, ◌≤◌}
use Rattle.vox_geom.specs.Least.{LeastOf}
use Rattle.vox_planes.specs.Layers.{layer_words}
use Rattle.vox_planes.proofs.Differences.{below_differ}
use Rattle.vox_planes.proofs.planes.Planes.equal.Given as goal

abbrev pub invariant-loop-y : goal.invariant-loop-y
invariant-loop-y g l = record {
  least : LeastOf l.self.resolution (below_differ l.self l.other l.y) l.least;
  touches : l.steps ≤ l.initial.steps + 2 * (l.y * layer_words l.self.resolution);
}
