-- Moves along the axes (docs/FORMATS.md, "Commands").
use Rattle.std.specs.Prelude.{◌≡◌, ◌⊎◌, ℕ, ◌+◌, ◌-◌, ◌*◌, ◌/◌, ◌<◌, ◌≤◌, ℤ, pos, ◌+ℤ◌, ◌-ℤ◌, List, [], ◌∷◌, ◌++◌, length}
use Rattle.vox_geom.specs.declared.coordinate.Coord.{Coord}
use Rattle.vox_geom.specs.declared.difference.Diff.{Diff}
use Rattle.vox_geom.specs.Point.{point}
use Rattle.vox_geom.specs.Region.{between}
use Rattle.nano_spec.specs.declared.commands.Command.{Command}
use Rattle.nano_spec.specs.declared.commands.Command.TheVariants.{SMove}
use Rattle.nano_spec.specs.Matrix.{Matrix}
use Rattle.plan_tape.specs.declared.axis.Axis.{Axis}
use Rattle.plan_tape.specs.declared.axis.Axis.TheVariants.{X, Y, Z}
use Rattle.plan_tape.specs.Progress.{TapeState, IsAllowed, bots_at, bytes, spot, upkeep_of_step}
use Rattle.step_order.specs.Unbroken.{IsVoid}

-- the component of a coordinate on an axis
abbrev pub component_of : Axis → Coord → ℕ
component_of X c = c.x
component_of Y c = c.y
component_of Z c = c.z

-- the coordinate with another component on an axis
abbrev pub put : Axis → Coord → ℕ → Coord
put X c v = record { x = v; y = c.y; z = c.z }
put Y c v = record { x = c.x; y = v; z = c.z }
put Z c v = record { x = c.x; y = c.y; z = v }

-- the difference along an axis
abbrev pub along : Axis → ℤ → Diff
along X z = record { dx = z; dy = pos 0; dz = pos 0 }
along Y z = record { dx = pos 0; dy = z; dz = pos 0 }
along Z z = record { dx = pos 0; dy = pos 0; dz = z }

-- the distance of two components
abbrev pub gap : ℕ → ℕ → ℕ
gap a b = (a - b) + (b - a)

-- the least number of moves of at most 15 from one component to another
abbrev pub moves : ℕ → ℕ → ℕ
moves a b = (gap a b + 14) / 15

-- a component between one and another, past the first
abbrev pub IsOnward : ℕ → ℕ → ℕ → Type 0
IsOnward a v b = (a < v × v ≤ b) ⊎ (b ≤ v × v < a)

-- one move leads from a component to one that is at most 15 away, toward another
pub record IsMove (a v b : ℕ) : Type 0 where
  pub onward : IsOnward a v b
  pub near : gap a v ≤ 15

-- moves along an axis that lead from one component to another, each of at most 15 and nearer to the end
abbrev pub IsLeg : Axis → ℕ → ℕ → List Command → Type 0
IsLeg axis a b [] = a ≡ b
IsLeg axis a b (command ∷ more) =
    (v : ℕ) × (command ≡ SMove (along axis (pos v -ℤ pos a))) × IsMove a v b × IsLeg axis v b more

-- such moves, as few as can be
pub record IsLeastLeg (axis : Axis) (a b : ℕ) (commands : List Command) : Type 0 where
  pub leg : IsLeg axis a b commands
  pub least : length commands ≡ moves a b

-- the least moves from one coordinate to another along x, then y, then z
pub record AreLegs (a b : Coord) (commands : List Command) : Type 0 where
  pub x : List Command
  pub y : List Command
  pub z : List Command
  pub joined : commands ≡ x ++ y ++ z
  pub along_x : IsLeastLeg X a.x b.x x
  pub along_y : IsLeastLeg Y a.y b.y y
  pub along_z : IsLeastLeg Z a.z b.z z

-- the number of those moves
abbrev pub moves_to : Coord → Coord → ℕ
moves_to a b = moves a.x b.x + moves a.y b.y + moves a.z b.z

-- the distance of two coordinates along the axes
abbrev pub distance : Coord → Coord → ℕ
distance a b = gap a.x b.x + gap a.y b.y + gap a.z b.z

-- the path from a coordinate along an axis is void
abbrev pub IsVoidAlong : Matrix → Axis → Coord → ℕ → Type 0
IsVoidAlong m axis c to = IsVoid m (between (point c) (point (put axis c to)))

-- the paths along x, then y, then z are void
pub record AreVoidTo (m : Matrix) (a b : Coord) : Type 0 where
  pub x : IsVoidAlong m X a b.x
  pub y : IsVoidAlong m Y (put X a b.x) b.y
  pub z : IsVoidAlong m Z (put Y (put X a b.x) b.y) b.z

-- the profile allows moves
abbrev pub MayMove : TapeState → Type 0
MayMove p = (d : Diff) → IsAllowed p (SMove d)

-- the tape after moves of its only bot to a coordinate
pub record Moves (old new : TapeState) (to : Coord) : Type 0 where
  pub source : new.source ≡ old.source
  pub profile : new.profile ≡ old.profile
  pub commands : List Command
  pub legs : AreLegs (spot old.bots) to commands
  pub added : new.commands ≡ old.commands ++ commands
  pub matrix : new.matrix ≡ old.matrix
  pub harmonics : new.harmonics ≡ old.harmonics
  pub bots : new.bots ≡ bots_at old.bots to
  pub alone : length new.bots ≡ 1
  pub there : spot new.bots ≡ to
  pub energy : new.energy
      ≡ old.energy +ℤ pos (moves_to (spot old.bots) to * upkeep_of_step old + 2 * distance (spot old.bots) to)
  pub steps : new.steps ≡ old.steps + moves_to (spot old.bots) to
  pub bytes_are : bytes new ≡ bytes old + 2 * moves_to (spot old.bots) to
