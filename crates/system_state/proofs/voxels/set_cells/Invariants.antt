use Rattle.std.proofs.Common.{◌≡◌, take}
use Rattle.vox_planes.specs.Voxel.{IsWhole}
use Rattle.system_state.specs.Painting.{with_cells}
use Rattle.system_state.proofs.voxels.set_cells.Given as goal

abbrev pub invariant-loop-c : goal.invariant-loop-c
invariant-loop-c l = record {
  value : l.matrix ≡ with_cells l.initial.matrix (take l.c-index l.cells) l.full;
  whole : IsWhole l.matrix;
}
