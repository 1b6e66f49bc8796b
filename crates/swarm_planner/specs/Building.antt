-- The voxels built by a part of the plan: some that are full in the target are full, and all others are unchanged.
use Rattle.std.specs.Prelude.{◌≡◌, ℕ, ◌+◌, ◌*◌, ◌≤◌, ◌<◌, ◌==◌, Bool, false, ◌&&◌, ◌||◌, not, cond, nat_lt, zero, suc, min, List, [], ◌∷◌}
use Rattle.vox_geom.specs.declared.coordinate.Coord.{Coord}
use Rattle.nano_spec.specs.declared.commands.Command.{Command}
use Rattle.nano_spec.specs.declared.commands.Command.TheVariants.{Fill, Wait}
use Rattle.nano_spec.specs.declared.system.Bot.{Bot}
use Rattle.nano_spec.specs.Matrix.{Matrix, is_full}
use Rattle.plan_tape.specs.Leg.{distance}
use Rattle.plan_tape.specs.Progress.{TapeState, spot, IsVoidFrom}
use Rattle.swarm_planner.specs.Crew.{InRow, IsSwarm, places}
use Rattle.swarm_planner.specs.Strips.{count, last}
use Rattle.swarm_planner.specs.Bounds.{width}
use Rattle.vox_geom.specs.Point.{down, below}

-- ---- one step of fills

-- whether the coordinate is the one below a position
abbrev pub is_below : Coord → Coord → Bool
is_below p c = c.x == p.x && c.y + 1 == p.y && c.z == p.z

-- whether the coordinate is below one of the positions
abbrev pub is_under : List Coord → Coord → Bool
is_under [] c = false
is_under (p ∷ ps) c = is_below p c || is_under ps c

-- whether the voxel below a position is full in the target and not yet in the matrix
abbrev pub is_wanted : Matrix → Matrix → Coord → Bool
is_wanted m target p = is_full target (below p) && not (is_full m (below p))

-- whether one of the voxels below positions is
abbrev pub are_wanted : Matrix → Matrix → List Coord → Bool
are_wanted m target [] = false
are_wanted m target (p ∷ ps) = is_wanted m target p || are_wanted m target ps

-- the bot fills the voxel below its position if it is missing, and waits otherwise
abbrev pub fill : Matrix → Matrix → Coord → Command
fill m target p = cond (is_wanted m target p) (Fill down) Wait

-- the commands of all bots
abbrev pub fills : Matrix → Matrix → List Bot → List Command
fills m target [] = []
fills m target (b ∷ bots) = fill m target b.pos ∷ fills m target bots

-- if the test holds, voxels that are full in the target have become full; all others are unchanged
abbrev pub IsRaised : Matrix → Matrix → Matrix → (Coord → Bool) → Type 0
IsRaised new old target done = (c : Coord) → is_full new c ≡ (is_full old c || (done c && is_full target c))

-- the tape after one step, by which all voxels below the bots are those of the target
pub record Fills (old new : TapeState) (target : Matrix) : Type 0 where
  pub source : new.source ≡ old.source
  pub swarm : IsSwarm new
  pub bots : new.bots ≡ old.bots
  pub resolution : new.matrix.resolution ≡ old.matrix.resolution
  pub raised : IsRaised new.matrix old.matrix target (is_under (places old.bots))
  pub steps : new.steps ≡ old.steps + 1

-- ---- lines and layers

-- whether x is a column of the row whose first bot is led to this one
abbrev pub is_column : ℕ → ℕ → ℕ → ℕ → ℕ → Bool
is_column w l zero a x = false
is_column w l (suc n) a x = x == min a l || is_column w l n (a + w) x

-- the same in all strips
abbrev pub in_line : ℕ → ℕ → ℕ → Bool
in_line r a x = is_column (width r) (last r) (count r) a x

-- whether x is a column of one of the first k lines of the strips
abbrev pub in_lines : ℕ → ℕ → ℕ → Bool
in_lines r zero x = false
in_lines r (suc k) x = in_lines r k x || in_line r (suc k) x

-- the voxel of y and z of a line, in all strips
abbrev pub cell : ℕ → ℕ → ℕ → ℕ → Coord → Bool
cell r a y z c = in_line r a c.x && c.y == y && c.z == z

-- the first z voxels of a line of y, in all strips
abbrev pub cells : ℕ → ℕ → ℕ → ℕ → Coord → Bool
cells r a y z c = in_line r a c.x && c.y == y && nat_lt c.z z

-- a line of y, in all strips
abbrev pub line : ℕ → ℕ → ℕ → Coord → Bool
line r a y c = in_line r a c.x && c.y == y

-- the first k lines of the layer of y
abbrev pub in_first_lines : ℕ → ℕ → ℕ → Coord → Bool
in_first_lines r k y c = in_lines r k c.x && c.y == y

-- the layers below that of y
abbrev pub layers : ℕ → ℕ → Coord → Bool
layers r y c = in_lines r (width r) c.x && nat_lt c.y y

-- ---- the tape

-- the swarm is in a row, and all is void from its height on
pub record CanBuild (p : TapeState) (target : Matrix) : Type 0 where
  pub swarm : IsSwarm p
  pub row : InRow p
  pub same : target.resolution ≡ p.matrix.resolution
  pub here : IsVoidFrom p.matrix (spot p.bots).y

-- moreover it is no higher than above the layer of y, and all is void from there on
pub record CanFillLayer (p : TapeState) (target : Matrix) (y : ℕ) : Type 0 where
  pub ready : CanBuild p target
  pub within : y + 1 < p.matrix.resolution
  pub above : IsVoidFrom p.matrix (y + 1)
  pub below : (spot p.bots).y ≤ y + 1

-- the steps of a tape and at most as many as move its row to a position
abbrev pub crew_steps_to : TapeState → Coord → ℕ
crew_steps_to p c = p.steps + distance (spot p.bots) c

-- the tape has built the voxels for which the test holds; its steps and those to the position `to` exceed the earlier steps
-- and those to `from` by at most `most`
pub record Builds (old new : TapeState) (target : Matrix) (done : Coord → Bool) (from to : Coord) (most : ℕ)
    : Type 0 where
  pub source : new.source ≡ old.source
  pub resolution : new.matrix.resolution ≡ old.matrix.resolution
  pub raised : IsRaised new.matrix old.matrix target done
  pub ready : CanBuild new target
  pub low : (spot new.bots).y ≤ to.y
  pub steps_are : crew_steps_to new to ≤ crew_steps_to old from + most

-- the most steps of a line, with the path to the next one
abbrev pub line_steps : ℕ → ℕ
line_steps r = 3 * r + 1

-- the most steps of a layer, with the path to the next one
abbrev pub swarm_layer_steps : ℕ → ℕ
swarm_layer_steps r = width r * line_steps r + width r + 1
