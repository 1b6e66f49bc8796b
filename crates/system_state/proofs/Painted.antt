-- Cells that are filled or voided one after another.
use Rattle.std.proofs.Common.{◌≡◌, ◌*◌, sym, ◌∙◌, ap, List, [], ◌∷◌, ◌++◌, Bool, cond, length}
use Rattle.vox_geom.specs.declared.coordinate.Coord.{Coord}
use Rattle.vox_geom.specs.Point.{point, same_point}
use Rattle.vox_geom.proofs.Truths.{twice_chosen}
use Rattle.nano_spec.specs.Matrix.{Matrix, is_full}
use Rattle.vox_planes.specs.Voxel.{with_voxel}
use Rattle.step_order.proofs.Voxels.{as_it_is, full_where, matrix_same}
use Rattle.step_groups.proofs.Shared.{any-push}
use Rattle.system_state.specs.Painting.{is_cell, with_cells}

pub no_cells : (m : Matrix) (full : Bool) → length m.voxels ≡ m.resolution * m.resolution * m.resolution
    → with_cells m [] full ≡ m
no_cells m full e = as_it_is m e

-- one more cell
pub one_cell_more : (m : Matrix) (cells : List Coord) (c : Coord) (full : Bool)
    → with_voxel (with_cells m cells full) c full ≡ with_cells m (cells ++ c ∷ []) full
one_cell_more m cells c full =
    matrix_same m.resolution (λ d. cond (same_point (point d) (point c)) full (is_full (with_cells m cells full) d)) (λ d. cond (is_cell (cells ++ c ∷ []) d) full (is_full m d)) (λ d w.
    ap (λ b. cond (same_point (point d) (point c)) full b) (full_where m.resolution (λ e. cond (is_cell cells e) full (is_full m e)) d w)
    ∙ (twice_chosen (is_cell cells d) (same_point (point d) (point c)) full (is_full m d)
    ∙ ap (λ b. cond b full (is_full m d)) (sym (any-push (λ e. same_point (point d) (point e)) cells c))))
