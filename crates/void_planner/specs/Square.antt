-- Four bots at the corners of a rectangle, and the effects of their steps.
use Rattle.std.specs.Prelude.{◌≡◌, ℕ, ◌+◌, ◌-◌, ◌*◌, ◌^◌, ◌<◌, ◌≤◌, false, List, [], ◌∷◌}
use Rattle.vox_geom.specs.declared.coordinate.Coord.{Coord}
use Rattle.vox_geom.specs.Region.{Span}
use Rattle.nano_spec.specs.declared.system.Bot.{Bot}
use Rattle.nano_spec.specs.declared.system.Harmonics.TheVariants.{High}
use Rattle.nano_spec.specs.Matrix.{Matrix, is_full}
use Rattle.nano_spec.specs.Profile.{full_profile}
use Rattle.plan_tape.specs.Leg.{moves_to}
use Rattle.plan_tape.specs.Progress.{TapeState, spot, IsVoidFrom}
use Rattle.plan_tape.specs.Fissions.{fissions}
use Rattle.void_planner.specs.Tiles.{far_of}
use Rattle.void_planner.specs.Bounds.{tiles_of}
use Rattle.vox_geom.specs.Point.{coord}

-- a bot by its parts
abbrev pub bot_with : ℕ → Coord → ℕ → Bot
bot_with bid c seeds = record { bid = bid; pos = c; seeds = seeds }

-- the first bot with the seeds 2 to 40
abbrev pub one : Coord → List Bot
one c = bot_with 1 c (2 ^ 41 - 2 ^ 2) ∷ []

-- it and its neighbor along x: the seeds 4 to 40, and 3
abbrev pub two : Coord → List Bot
two c = bot_with 1 c (2 ^ 41 - 2 ^ 4) ∷ bot_with 2 (coord (c.x + 1) c.y c.z) (2 ^ 3) ∷ []

-- four bots at the corners of a rectangle, with the first bot at its least corner: the seeds 5 to 40, and none
abbrev pub four : Coord → ℕ → ℕ → List Bot
four c w d =
    bot_with 1 c (2 ^ 41 - 2 ^ 5) ∷ bot_with 2 (coord (c.x + w) c.y c.z) 0
    ∷ bot_with 3 (coord (c.x + w) c.y (c.z + d)) 0 ∷ bot_with 4 (coord c.x c.y (c.z + d)) 0 ∷ []

-- bots at the corners of a rectangle are in space, and all is void from their height on
pub record CanStand (m : Matrix) (w d : ℕ) (c : Coord) : Type 0 where
  pub x : c.x + w < m.resolution
  pub y : c.y < m.resolution
  pub z : c.z + d < m.resolution
  pub above : IsVoidFrom m c.y

-- under High and by the full profile, bots may split or fuse at the corners of the square of two
pub record CanRegroup (p : TapeState) : Type 0 where
  pub high : p.harmonics ≡ High
  pub full : p.profile ≡ full_profile
  pub stand : CanStand p.matrix 1 1 (spot p.bots)
  pub limit : p.steps < 1073741824

-- under High, four bots are at the corners of a rectangle
pub record IsRectangle (p : TapeState) (w d : ℕ) : Type 0 where
  pub bots_are : p.bots ≡ four (spot p.bots) w d
  pub high : p.harmonics ≡ High
  pub full : p.profile ≡ full_profile
  pub wide : 1 ≤ w
  pub deep : 1 ≤ d
  pub stand : CanStand p.matrix w d (spot p.bots)

-- in this many steps the four have come to the corners of a rectangle with this least corner, and no voxel has
-- changed
pub record FourGo (old new : TapeState) (w d : ℕ) (c : Coord) (count : ℕ) : Type 0 where
  pub source : new.source ≡ old.source
  pub matrix : new.matrix ≡ old.matrix
  pub rectangle : IsRectangle new w d
  pub there : spot new.bots ≡ c
  pub fissions_are : fissions new ≡ fissions old
  pub steps : new.steps ≡ old.steps + count

-- in one step the four have voided a region and kept their positions
pub record FourVoid (old new : TapeState) (far : ℕ) (region : Span) (m : Matrix) : Type 0 where
  pub source : new.source ≡ old.source
  pub matrix : new.matrix ≡ m
  pub rectangle : IsRectangle new far far
  pub there : spot new.bots ≡ spot old.bots
  pub fissions_are : fissions new ≡ fissions old
  pub steps : new.steps ≡ old.steps + 1

-- no voxel has become full
abbrev pub AreFewer : Matrix → Matrix → Type 0
AreFewer new old = (c : Coord) → is_full old c ≡ false → is_full new c ≡ false

-- no fewer than the steps of a tape and of the moves that lead its first bot to a coordinate
abbrev pub steps_to : TapeState → Coord → ℕ
steps_to p c = p.steps + moves_to (spot p.bots) c

-- the four have voided some voxels; the tape's steps with those to `last` exceed the earlier ones with those to `first` by
-- at most `most`
pub record Clears (old new : TapeState) (first last : Coord) (most : ℕ) : Type 0 where
  pub source : new.source ≡ old.source
  pub resolution : new.matrix.resolution ≡ old.matrix.resolution
  pub fewer : AreFewer new.matrix old.matrix
  pub square : IsRectangle new (far_of old.matrix.resolution) (far_of old.matrix.resolution)
  pub fissions_are : fissions new ≡ fissions old
  pub steps_are : steps_to new last ≤ steps_to old first + most

-- the four are under High, and all is void above the layer of y
pub record CanVoidLayers (p : TapeState) (y : ℕ) : Type 0 where
  pub square : IsRectangle p (far_of p.matrix.resolution) (far_of p.matrix.resolution)
  pub within : y + 1 < p.matrix.resolution
  pub above : IsVoidFrom p.matrix (y + 1)

-- the most steps of a strip, with the path to the next one
abbrev pub strip_steps : ℕ → ℕ
strip_steps r = 4 * tiles_of r + 3

-- the most steps of a layer, with the path to the one below, and a path back to the origin
abbrev pub voiding_steps : ℕ → ℕ
voiding_steps r = 8 * (tiles_of r * tiles_of r) + 8

-- under High, a step has made these bots of the tape's, by this many Fissions, and no voxel has changed
pub record Becomes (old new : TapeState) (bots : List Bot) (made : ℕ) : Type 0 where
  pub source : new.source ≡ old.source
  pub matrix : new.matrix ≡ old.matrix
  pub high : new.harmonics ≡ High
  pub full : new.profile ≡ full_profile
  pub bots_are : new.bots ≡ bots
  pub fissions_are : fissions new ≡ fissions old + made
  pub steps : new.steps ≡ old.steps + 1
