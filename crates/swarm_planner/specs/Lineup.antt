-- Bots in a line along x, of which the last splits, moves along the line, and fuses (docs/FORMATS.md, "Commands").
use Rattle.std.specs.Prelude.{◌≡◌, ℕ, ◌+◌, ◌-◌, ◌≤◌, ◌<◌, pos, negsuc, List, [], ◌∷◌, length}
use Rattle.vox_geom.specs.declared.coordinate.Coord.{Coord}
use Rattle.vox_geom.specs.declared.difference.Diff.{Diff}
use Rattle.vox_geom.specs.Space.{numbers_from}
use Rattle.nano_spec.specs.declared.commands.Command.{Command}
use Rattle.nano_spec.specs.declared.commands.Command.TheVariants.{Wait}
use Rattle.nano_spec.specs.declared.system.Bot.{Bot}
use Rattle.nano_spec.specs.State.{seed_set}
use Rattle.plan_tape.specs.Progress.{TapeState, spot, IsVoidFrom}
use Rattle.swarm_planner.specs.Crew.{IsSwarm, places}
use Rattle.swarm_planner.specs.Strips.{last, bot_row}
use Rattle.swarm_planner.specs.Bounds.{width}
use Rattle.vox_geom.specs.Point.{coord}

-- ---- places

-- the position is in a line of this height and depth, and not before a column
pub record IsLined (r y z low : ℕ) (c : Coord) : Type 0 where
  pub within : c.x < r
  pub past : low ≤ c.x
  pub height : c.y ≡ y
  pub depth : c.z ≡ z

-- so are all positions, each in a column past the one before it
abbrev pub AreLined : ℕ → ℕ → ℕ → ℕ → List Coord → Type 0
AreLined r y z low [] = Unit {0}
AreLined r y z low (c ∷ cs) = IsLined r y z low c × AreLined r y z (c.x + 1) cs

-- the column of the last position
abbrev pub last_column : List Coord → ℕ
last_column [] = 0
last_column (c ∷ []) = c.x
last_column (c ∷ d ∷ more) = last_column (d ∷ more)

-- the first column past the positions but the last, and not before a column
abbrev pub free_column : ℕ → List Coord → ℕ
free_column low [] = low
free_column low (c ∷ []) = low
free_column low (c ∷ d ∷ more) = free_column (c.x + 1) (d ∷ more)

-- the positions after the last bot moved to a column
abbrev pub sent : List Coord → ℕ → List Coord
sent [] x = []
sent (c ∷ []) x = coord x c.y c.z ∷ []
sent (c ∷ d ∷ more) x = c ∷ sent (d ∷ more) x

-- the next position along x
abbrev pub next_along_x : Coord → Coord
next_along_x c = coord (c.x + 1) c.y c.z

-- the positions and one more next to the last
abbrev pub split : List Coord → List Coord
split [] = []
split (c ∷ []) = c ∷ next_along_x c ∷ []
split (c ∷ d ∷ more) = c ∷ split (d ∷ more)

-- the positions but the last
abbrev pub without_last : List Coord → List Coord
without_last [] = []
without_last (c ∷ []) = []
without_last (c ∷ d ∷ more) = c ∷ without_last (d ∷ more)

-- ---- commands

-- all wait but the last
abbrev pub ends : Command → List Bot → List Command
ends k [] = []
ends k (b ∷ []) = k ∷ []
ends k (b ∷ c ∷ more) = Wait ∷ ends k (c ∷ more)

-- all wait but the last two
abbrev pub pair_ends : Command → Command → List Bot → List Command
pair_ends k l [] = []
pair_ends k l (b ∷ []) = []
pair_ends k l (b ∷ c ∷ []) = k ∷ l ∷ []
pair_ends k l (b ∷ c ∷ d ∷ more) = Wait ∷ pair_ends k l (c ∷ d ∷ more)

-- the difference to the next position along x
abbrev pub right : Diff
right = record { dx = pos 1; dy = pos 0; dz = pos 0 }

-- the difference to the position before
abbrev pub left : Diff
left = record { dx = negsuc 0; dy = pos 0; dz = pos 0 }

-- ---- bots

-- the seeds that the light profile leaves to the bot with this bid: those from the next number to 20
abbrev pub seeds_after : ℕ → ℕ
seeds_after bid = seed_set (numbers_from (bid + 1) (20 - bid))

-- bots at positions, with bids that rise by one, of which the last has all remaining seeds
abbrev pub lined_up : ℕ → List Coord → List Bot
lined_up bid [] = []
lined_up bid (c ∷ []) = record { bid = bid; pos = c; seeds = seeds_after bid } ∷ []
lined_up bid (c ∷ d ∷ more) = record { bid = bid; pos = c; seeds = 0 } ∷ lined_up (bid + 1) (d ∷ more)

-- ---- the tape

-- the swarm is in a line, and all is void from its height on
pub record InLine (p : TapeState) : Type 0 where
  pub swarm : IsSwarm p
  pub some : 1 ≤ length p.bots
  pub most : p.matrix.resolution ≤ 400
  pub lined : AreLined p.matrix.resolution (spot p.bots).y (spot p.bots).z 1 (places p.bots)
  pub y : (spot p.bots).y < p.matrix.resolution
  pub z : (spot p.bots).z < p.matrix.resolution
  pub void : IsVoidFrom p.matrix (spot p.bots).y

-- the tape after a step that changes the bots alone
pub record Regroups (old new : TapeState) : Type 0 where
  pub source : new.source ≡ old.source
  pub matrix : new.matrix ≡ old.matrix
  pub swarm : IsSwarm new
  pub steps : new.steps ≡ old.steps + 1

-- the last two bots have become one, after at most this many steps
pub record Gathers (old new : TapeState) (most : ℕ) : Type 0 where
  pub source : new.source ≡ old.source
  pub matrix : new.matrix ≡ old.matrix
  pub line : InLine new
  pub places_are : places new.bots ≡ without_last (places old.bots)
  pub steps_are : new.steps ≤ old.steps + most

-- there is a bot in the first column of each of the first n strips, and the last has all seeds that are left
pub record IsSpreadOver (p : TapeState) (n : ℕ) : Type 0 where
  pub swarm : IsSwarm p
  pub some : 3 ≤ p.matrix.resolution
  pub most : p.matrix.resolution ≤ 400
  pub void : IsVoidFrom p.matrix 0
  pub bots_are : p.bots ≡ lined_up 1 (bot_row (width p.matrix.resolution) (last p.matrix.resolution) n (coord 1 1 0))

-- it is spread over n strips after at most this many steps
pub record SpreadsOver (old new : TapeState) (n most : ℕ) : Type 0 where
  pub source : new.source ≡ old.source
  pub matrix : new.matrix ≡ old.matrix
  pub spread : IsSpreadOver new n
  pub steps_are : new.steps ≤ old.steps + most

-- one bot is left, at z = 0, after at most this many steps
pub record HasGathered (old new : TapeState) (most : ℕ) : Type 0 where
  pub source : new.source ≡ old.source
  pub matrix : new.matrix ≡ old.matrix
  pub swarm : IsSwarm new
  pub alone : length new.bots ≡ 1
  pub there : spot new.bots ≡ coord (spot old.bots).x (spot old.bots).y 0
  pub steps_are : new.steps ≤ old.steps + most
