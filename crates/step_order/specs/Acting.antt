-- The effect of a step that breaks no rule on the bots and on the matrix, by kinds of commands (docs/FORMATS.md,
-- "Commands").
use Rattle.std.specs.Prelude.{Bool, true, false, cond}
use Rattle.vox_geom.specs.Point.{Point, point, plus}
use Rattle.vox_geom.specs.Region.{Span, is_within}
use Rattle.nano_spec.specs.declared.commands.Command.{Command}
use Rattle.nano_spec.specs.declared.commands.Command.TheVariants.{Halt, Wait, Flip, SMove, LMove, FusionP, FusionS, Fission, Fill, Void, GFill, GVoid}
use Rattle.nano_spec.specs.declared.system.Bot.{Bot}
use Rattle.nano_spec.specs.Act.{Act, position}
use Rattle.nano_spec.specs.Bots.{moved}
use Rattle.nano_spec.specs.Matrix.{Matrix, is_full, matrix_where}

-- whether the bot is one bot afterwards, with its bid and its seeds
abbrev pub stays_one : Command → Bool
stays_one Halt = false
stays_one Wait = true
stays_one Flip = true
stays_one (SMove d) = true
stays_one (LMove d e) = true
stays_one (FusionP d) = false
stays_one (FusionS d) = false
stays_one (Fission d m) = false
stays_one (Fill d) = true
stays_one (Void d) = true
stays_one (GFill d f) = true
stays_one (GVoid d f) = true

-- its position then
abbrev pub goal_of : Point → Command → Point
goal_of p (SMove d) = plus p d
goal_of p (LMove d e) = plus (plus p d) e
goal_of p _ = p

-- the bot then
abbrev pub gone : Act → Bot
gone a = moved a.bot (goal_of (position a) a.command)

-- whether the command changes no voxel
abbrev pub leaves_voxels : Command → Bool
leaves_voxels (Fill d) = false
leaves_voxels (Void d) = false
leaves_voxels (GFill d f) = false
leaves_voxels (GVoid d f) = false
leaves_voxels _ = true

-- the matrix in which a region is full or void, and all else as it was
abbrev pub with_region : Matrix → Span → Bool → Matrix
with_region m s full = matrix_where m.resolution (λ c. cond (is_within s (point c)) full (is_full m c))
