-- The cost of a step (task description, sections on execution and on commands; that the Halt step pays its upkeep is
-- this project's own: docs/FORMATS.md, "Commands").
use Rattle.std.specs.Prelude.{ℕ, ◌+◌, ◌*◌, ℤ, pos, negsuc, ◌+ℤ◌, cond, List, [], ◌∷◌, length, map, filter}
use Rattle.vox_geom.specs.Difference.{mlen}
use Rattle.vox_geom.specs.Point.{Point, point, plus}
use Rattle.vox_geom.specs.Region.{Span, just, is_within}
use Rattle.nano_spec.specs.declared.commands.Command.{Command}
use Rattle.nano_spec.specs.declared.commands.Command.TheVariants.{Halt, Wait, Flip, SMove, LMove, FusionP, FusionS, Fission, Fill, Void, GFill, GVoid}
use Rattle.nano_spec.specs.declared.system.Harmonics.{Harmonics}
use Rattle.nano_spec.specs.Act.{Act, position, between_corners}
use Rattle.nano_spec.specs.Group.{leaders}
use Rattle.nano_spec.specs.Matrix.{Matrix, is_full, all_of}
use Rattle.nano_spec.specs.State.{State, is_high}

-- the sum of whole numbers
abbrev pub total : List ℤ → ℤ
total [] = pos 0
total (z ∷ more) = z +ℤ total more

-- a price for each coordinate of a region, by whether its voxel is full
abbrev pub price : Matrix → Span → ℤ → ℤ → ℤ
price m s if_void if_full =
    total (map (λ c. cond (is_full m c) if_full if_void) (filter (λ c. is_within s (point c)) (all_of m)))

-- the cost to fill a region: 12 for a void voxel, 6 for a full one
abbrev pub filling : Matrix → Span → ℤ
filling m s = price m s (pos 12) (pos 6)

-- the cost to void a region: 3 for a void voxel, -12 for a full one
abbrev pub voiding : Matrix → Span → ℤ
voiding m s = price m s (pos 3) (negsuc 11)

-- the cost of a group, by the position and the command of its leader
abbrev pub group_cost : Matrix → Point → Command → ℤ
group_cost m p Halt = pos 0
group_cost m p Wait = pos 0
group_cost m p Flip = pos 0
group_cost m p (SMove d) = pos (2 * mlen d)
group_cost m p (LMove d e) = pos (2 * (mlen d + 2 + mlen e))
group_cost m p (FusionP d) = negsuc 23
group_cost m p (FusionS d) = negsuc 23
group_cost m p (Fission d n) = pos 24
group_cost m p (Fill d) = filling m (just (plus p d))
group_cost m p (Void d) = voiding m (just (plus p d))
group_cost m p (GFill d f) = filling m (between_corners p d f)
group_cost m p (GVoid d f) = voiding m (between_corners p d f)

-- the upkeep of a step at a resolution, under these harmonics, with this number of bots
abbrev pub upkeep_of : ℕ → Harmonics → ℕ → ℤ
upkeep_of r harmonics bots = pos (cond (is_high harmonics) 30 3 * (r * r * r) + 20 * bots)

-- the upkeep of a step, by the harmonics and the bots at its start
abbrev pub upkeep : State → ℤ
upkeep s = upkeep_of s.matrix.resolution s.harmonics (length s.bots)

-- the cost of all groups, from the voxels at the step's start
abbrev pub groups_cost : Matrix → List Act → ℤ
groups_cost m all = total (map (λ a. group_cost m (position a) a.command) (leaders all))
