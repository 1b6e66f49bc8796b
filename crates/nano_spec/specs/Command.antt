-- The valid commands: each difference is of its kind (task description, section on commands; docs/FORMATS.md,
-- "Commands").
use Rattle.std.specs.Prelude.{Bool, true, ◌&&◌, nat_lt, IsTrue}
use Rattle.vox_geom.specs.Difference.{is_near, is_far, is_short, is_long}
use Rattle.nano_spec.specs.declared.commands.Command.{Command}
use Rattle.nano_spec.specs.declared.commands.Command.TheVariants.{Halt, Wait, Flip, SMove, LMove, FusionP, FusionS, Fission, Fill, Void, GFill, GVoid}

-- whether the differences of a command are of their kinds, and the number of a Fission is a byte
abbrev pub is_command : Command → Bool
is_command Halt = true
is_command Wait = true
is_command Flip = true
is_command (SMove d) = is_long d
is_command (LMove d e) = is_short d && is_short e
is_command (FusionP d) = is_near d
is_command (FusionS d) = is_near d
is_command (Fission d m) = is_near d && nat_lt m 256
is_command (Fill d) = is_near d
is_command (Void d) = is_near d
is_command (GFill d f) = is_near d && is_far f
is_command (GVoid d f) = is_near d && is_far f

-- the same as a fact
abbrev pub IsCommand : Command → Type 0
IsCommand c = IsTrue (is_command c)
