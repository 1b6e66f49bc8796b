use Rattle.std.proofs.Common.{◌≡◌, ◌-◌, length}
use Rattle.vox_planes.specs.Voxel.{IsWhole}
use Rattle.model_forge.specs.Forging.{IsForged, row_place}
use Rattle.model_forge.proofs.walls.forge.Given as goal

abbrev pub invariant-loop-x : goal.invariant-loop-x
invariant-loop-x l = record {
  forged : IsForged l.number l.tower l.planes (row_place l.r l.x 0);
  count : length l.heights.items ≡ l.r - 2;
  resolution : l.planes.resolution ≡ l.r;
  whole : IsWhole l.planes;
}
