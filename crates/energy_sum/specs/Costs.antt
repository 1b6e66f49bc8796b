-- The cost of a command by the voxels that it meets (task description, section on commands; docs/FORMATS.md,
-- "Commands").
use Rattle.std.specs.Prelude.{ℕ, ◌+◌, ◌*◌, ℤ, pos, negsuc, ◌-ℤ◌, Bool, true, false, cond, ◌&&◌, not, List, ◌++◌, count_by}
use Rattle.std.specs.List.{list_any}
use Rattle.vox_geom.specs.declared.coordinate.Coord.{Coord}
use Rattle.vox_geom.specs.Difference.{mlen}
use Rattle.vox_geom.specs.Point.{Point, point}
use Rattle.vox_geom.specs.Region.{Span, is_within}
use Rattle.nano_spec.specs.declared.commands.Command.{Command}
use Rattle.nano_spec.specs.declared.commands.Command.TheVariants.{Halt, Wait, Flip, SMove, LMove, FusionP, FusionS, Fission, Fill, Void, GFill, GVoid}
use Rattle.nano_spec.specs.declared.system.Harmonics.{Harmonics}
use Rattle.nano_spec.specs.Act.{filled, voided}
use Rattle.nano_spec.specs.Matrix.{Matrix, is_full, all_of}
use Rattle.nano_spec.specs.State.{is_high}

-- the part of the upkeep of a step that the space costs, at a resolution and under these harmonics
abbrev pub space_upkeep : ℕ → Harmonics → ℕ
space_upkeep r harmonics = cond (is_high harmonics) 30 3 * (r * r * r)

-- 12 for each void voxel that is filled, and 6 for each full one
abbrev pub filling_cost : ℕ → ℕ → ℤ
filling_cost was_void was_full = pos (12 * was_void + 6 * was_full)

-- 3 for each void voxel that is voided, and -12 for each full one
abbrev pub voiding_cost : ℕ → ℕ → ℤ
voiding_cost was_void was_full = pos (3 * was_void) -ℤ pos (12 * was_full)

-- the cost of a command that meets this many void and full voxels; in a fusion the primary's command has the whole cost
abbrev pub cost_of : Command → ℕ → ℕ → ℤ
cost_of Halt was_void was_full = pos 0
cost_of Wait was_void was_full = pos 0
cost_of Flip was_void was_full = pos 0
cost_of (SMove d) was_void was_full = pos (2 * mlen d)
cost_of (LMove d e) was_void was_full = pos (2 * (mlen d + 2 + mlen e))
cost_of (FusionP d) was_void was_full = negsuc 23
cost_of (FusionS d) was_void was_full = pos 0
cost_of (Fission d m) was_void was_full = pos 24
cost_of (Fill d) was_void was_full = filling_cost was_void was_full
cost_of (Void d) was_void was_full = voiding_cost was_void was_full
cost_of (GFill d f) was_void was_full = filling_cost was_void was_full
cost_of (GVoid d f) was_void was_full = voiding_cost was_void was_full

-- the regions whose voxels the command of a bot at p fills or voids
abbrev pub met : Point → Command → List Span
met p command = filled p command ++ voided p command

-- whether a coordinate is in one of the regions
abbrev pub is_met : List Span → Coord → Bool
is_met spans c = list_any (λ s. is_within s (point c)) spans

-- how many void voxels the command meets
abbrev pub void_count : Matrix → Point → Command → ℕ
void_count m p command = count_by (λ c. is_met (met p command) c && not (is_full m c)) (all_of m)

-- how many full voxels the command meets
abbrev pub met_full_count : Matrix → Point → Command → ℕ
met_full_count m p command = count_by (λ c. is_met (met p command) c && is_full m c) (all_of m)

-- whether the command is that of a fusion's secondary
abbrev pub is_secondary : Command → Bool
is_secondary (FusionS d) = true
is_secondary _ = false
