-- The commands of a plan.
use Rattle.std.specs.Prelude.{◌≡◌, false, ⊤}
use Rattle.vox_geom.specs.declared.coordinate.Coord.{Coord}
use Rattle.nano_spec.specs.declared.commands.Command.{Command}
use Rattle.nano_spec.specs.declared.commands.Command.TheVariants.{Flip, Fission, GFill, GVoid}
use Rattle.nano_spec.specs.Matrix.{Matrix, is_full}

-- the command is neither a Flip nor a Fission nor one of a group
abbrev pub IsPlain : Command → Type 0
IsPlain Flip = ⊥
IsPlain (Fission d m) = ⊥
IsPlain (GFill d f) = ⊥
IsPlain (GVoid d f) = ⊥
IsPlain command = ⊤

-- no voxel of the matrix is full
abbrev pub IsEmpty : Matrix → Type 0
IsEmpty m = (c : Coord) → is_full m c ≡ false
