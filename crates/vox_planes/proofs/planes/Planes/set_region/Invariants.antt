use Rattle.std.proofs.Common.{◌≡◌, ◌+◌, ◌-◌, ◌*◌, ◌≤◌}
use Rattle.vox_geom.specs.Region.{size, span}
use Rattle.vox_planes.specs.Painting.{IsPainted, is_in_layers}
use Rattle.vox_planes.specs.Voxel.{IsWhole}
use Rattle.vox_planes.specs.Walk.{layer_size}
use Rattle.vox_planes.proofs.planes.Planes.set_region.Given as goal

abbrev pub invariant-loop-y : goal.invariant-loop-y
invariant-loop-y g l = record {
  painted : IsPainted l.initial.self l.self (is_in_layers l.b l.y) l.full l.changed;
  resolution : l.self.resolution ≡ l.initial.self.resolution;
  whole : IsWhole l.self;
  most : l.changed + (l.b.high.y + 1 - l.y) * layer_size l.b ≤ size (span l.b);
  touches : l.steps + (l.b.high.y + 1 - l.y) * layer_size l.b ≤ l.initial.steps + size (span l.b);
}
