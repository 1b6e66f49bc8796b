use Rattle.std.proofs.Common.{◌≡◌, ℕ}
use Rattle.vox_planes.specs.Voxel.{IsWhole}
use Rattle.model_forge.specs.Forging.{AreHeights, IsForged, row_place}
use Rattle.model_forge.proofs.walls.put_wall.Given as goal

abbrev pub invariant-loop-y : goal.invariant-loop-y
invariant-loop-y l = record {
  forged : (number : ℕ) → AreHeights number l.initial.planes.resolution l.x l.heights → IsForged number l.tower l.initial.planes (row_place l.initial.planes.resolution l.x 0)
      → IsForged number l.tower l.planes (row_place l.initial.planes.resolution l.x l.y);
  resolution : l.planes.resolution ≡ l.initial.planes.resolution;
  whole : IsWhole l.planes;
}
