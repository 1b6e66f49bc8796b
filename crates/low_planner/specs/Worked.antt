-- Worked examples of parts of layers that are supported, and of the least voxel of those that are not.
use Rattle.std.specs.Prelude.{◌≡◌, true, false, pos, [], ◌∷◌, Some, None}
use Rattle.vox_geom.specs.Point.{coord}
use Rattle.nano_spec.specs.declared.commands.Command.TheVariants.{Halt, Flip, SMove, Fission, GFill, GVoid}
use Rattle.nano_spec.specs.Matrix.{Matrix}
use Rattle.nano_spec.specs.Worked.{diff, voxels_at}
use Rattle.low_planner.specs.Commands.{IsPlain}
use Rattle.low_planner.specs.Supported.{FirstUnsupported, IsSupported, is_layer_path_from}

-- two voxels above the floor, which are not adjacent
abbrev pub two_hang : Matrix
two_hang = voxels_at 2 (coord 0 1 0 ∷ coord 1 1 1 ∷ [])

-- a voxel on the floor, one above it, and one next to that
abbrev pub one_leans : Matrix
one_leans = voxels_at 2 (coord 0 0 0 ∷ coord 0 1 0 ∷ coord 0 1 1 ∷ [])

-- a voxel on the floor, one above it, and two next to that
abbrev pub two_lean : Matrix
two_lean = voxels_at 2 (coord 0 0 0 ∷ coord 0 1 0 ∷ coord 1 1 0 ∷ coord 0 1 1 ∷ [])

pub record WorkedParts : Type 0 where
  -- the least of two parts is answered
  pub the_least_of_two : FirstUnsupported two_hang (Some (coord 0 1 0))
  pub each_of_both_hangs : (IsSupported two_hang (coord 0 1 0) → ⊥) × (IsSupported two_hang (coord 1 1 1) → ⊥)
  -- a part is supported if one of its voxels is
  pub one_rests_for_both : FirstUnsupported one_leans None
  -- paths along x and along z
  pub along_a_layer : (is_layer_path_from two_lean (coord 1 1 0) (coord 1 1 0 ∷ coord 0 1 0 ∷ []) ≡ true)
      × (is_layer_path_from two_lean (coord 0 1 1) (coord 0 1 1 ∷ coord 0 1 0 ∷ []) ≡ true)
  -- no path begins elsewhere, ends above a void voxel, crosses an edge, or leaves the layer
  pub from_elsewhere : is_layer_path_from two_lean (coord 1 1 0) (coord 0 1 0 ∷ []) ≡ false
  pub above_a_void_voxel : is_layer_path_from two_lean (coord 1 1 0) (coord 1 1 0 ∷ []) ≡ false
  pub over_an_edge :
      is_layer_path_from two_lean (coord 0 1 1) (coord 0 1 1 ∷ coord 1 1 0 ∷ coord 0 1 0 ∷ []) ≡ false
  pub between_layers : is_layer_path_from two_lean (coord 0 1 0) (coord 0 1 0 ∷ coord 0 0 0 ∷ []) ≡ false
  -- commands of a plan, and others
  pub plain_commands : IsPlain Halt × IsPlain (SMove (diff (pos 1) (pos 0) (pos 0)))
  pub other_commands : (IsPlain Flip → ⊥) × (IsPlain (Fission (diff (pos 1) (pos 0) (pos 0)) 0) → ⊥)
      × (IsPlain (GFill (diff (pos 1) (pos 0) (pos 0)) (diff (pos 1) (pos 0) (pos 0))) → ⊥)
      × (IsPlain (GVoid (diff (pos 1) (pos 0) (pos 0)) (diff (pos 1) (pos 0) (pos 0))) → ⊥)
