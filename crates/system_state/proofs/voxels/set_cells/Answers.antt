use Rattle.std.proofs.Common.{◌∙◌, ap, sym, take, get_or}
use Rattle.std.proofs.lemmas.List.{take_more}
use Rattle.vox_geom.specs.declared.coordinate.Coord.{Coord}
use Rattle.nano_spec.specs.Matrix.{Matrix}
use Rattle.vox_planes.specs.Voxel.{with_voxel}
use Rattle.system_state.specs.Painting.{with_cells}
use Rattle.system_state.proofs.Painted.{no_cells, one_cell_more}
use Rattle.system_state.proofs.voxels.set_cells.Goals as goal

pub loop-c-init : goal.loop-c-init
loop-c-init c = record { value = sym (no_cells c.args.matrix.now c.args.full c.requires.whole.voxels); whole = c.requires.whole }

pub loop-c-preserved : goal.loop-c-preserved
loop-c-preserved c =
    let none : Coord = record { x = 0; y = 0; z = 0 } in
    record {
      value =
          c.set.ensures.value
          ∙ (ap (λ (m : Matrix). with_voxel m (get_or c.args.cells.now c.loop-c.c-index none) c.args.full) c.loop-c.invariant.value
          ∙ (one_cell_more c.args.matrix.now (take c.loop-c.c-index c.args.cells.now) (get_or c.args.cells.now c.loop-c.c-index none) c.args.full
          ∙ ap (λ cells. with_cells c.args.matrix.now cells c.args.full) (sym (take_more c.args.cells.now c.loop-c.c-index none c.loop-c-test.true))));
      whole = c.set.ensures.whole;
    }
