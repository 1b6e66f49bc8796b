-- The list to judge, and the voxel that it fills.
use Rattle.std.specs.Prelude.{pos, List, [], ◌∷◌}
use Rattle.vox_geom.specs.declared.coordinate.Coord.{Coord}
use Rattle.nano_spec.specs.declared.commands.Command.{Command}
use Rattle.nano_spec.specs.declared.commands.Command.TheVariants.{Fill, Halt}

-- a bot at the origin fills the voxel and halts
abbrev pub commands : List Command
commands = Fill (record { dx = pos 1; dy = pos 0; dz = pos 1 }) ∷ Halt ∷ []

-- the one full voxel of the target
abbrev pub full_voxel : Coord
full_voxel = record { x = 1; y = 0; z = 1 }
