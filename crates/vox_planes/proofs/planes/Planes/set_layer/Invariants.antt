use Rattle.std.proofs.Common.{◌≡◌, ◌+◌, ◌-◌, ◌*◌, ◌≤◌}
use Rattle.vox_planes.specs.Painting.{IsPainted, is_in_layer}
use Rattle.vox_planes.specs.Voxel.{IsWhole}
use Rattle.vox_planes.specs.Walk.{layer_size, row_size}
use Rattle.vox_planes.proofs.planes.Planes.set_layer.Given as goal

abbrev pub invariant-loop-x : goal.invariant-loop-x
invariant-loop-x g l = record {
  painted : IsPainted l.initial.self l.self (is_in_layer l.b l.y l.x) l.full l.changed;
  resolution : l.self.resolution ≡ l.initial.self.resolution;
  whole : IsWhole l.self;
  most : l.changed + (l.b.high.x + 1 - l.x) * row_size l.b ≤ layer_size l.b;
  touches : l.steps + (l.b.high.x + 1 - l.x) * row_size l.b ≤ l.initial.steps + layer_size l.b;
}
