-- The commands by which the pair writes.
use Rattle.std.specs.Prelude.{ℤ, pos, Bool, true, false}
use Rattle.vox_geom.specs.declared.difference.Diff.{Diff}
use Rattle.nano_spec.specs.declared.commands.Command.{Command}
use Rattle.nano_spec.specs.declared.commands.Command.TheVariants.{Fill, Void, GFill, GVoid}
use Rattle.vox_geom.specs.Point.{down}

-- the difference along z
abbrev pub ahead : ℤ → Diff
ahead z = record { dx = pos 0; dy = pos 0; dz = z }

-- the command that makes the voxel below full, or void
abbrev pub one_below : Bool → Command
one_below true = Fill down
one_below false = Void down

-- the command that makes the voxels from the one below to another along z full, or void, together with the other
-- bot
abbrev pub all_below : Bool → ℤ → Command
all_below true z = GFill down (ahead z)
all_below false z = GVoid down (ahead z)
