-- The tape of a bot that builds the voxels of a sweep.
use Rattle.std.specs.Prelude.{◌≡◌, ◌⊎◌, ℕ, ◌+◌, ◌-◌, ◌*◌, ◌<◌, ◌≤◌, ◌&&◌, not, [], ◌∷◌, ◌++◌, IsTrue, All, length, List}
use Rattle.vox_geom.specs.declared.coordinate.Coord.{Coord}
use Rattle.vox_geom.specs.Point.{are_adjacent}
use Rattle.vox_geom.specs.Space.{IsInSpace}
use Rattle.nano_spec.specs.declared.system.Harmonics.TheVariants.{Low}
use Rattle.nano_spec.specs.Matrix.{Matrix, empty, is_full, full_count}
use Rattle.nano_spec.specs.Profile.{light_profile}
use Rattle.nano_spec.specs.State.{origin}
use Rattle.plan_tape.specs.Leg.{moves_to}
use Rattle.plan_tape.specs.Progress.{AreAlike, TapeState, spot, IsVoidFrom}
use Rattle.low_planner.specs.declared.sweep.Sweep.{Sweep}
use Rattle.low_planner.specs.Commands.{IsEmpty, IsPlain}
use Rattle.low_planner.specs.Sweep.{reach}

-- the coordinate right above
abbrev pub above : Coord → Coord
above c = record { x = c.x; y = c.y + 1; z = c.z }

-- the single bot is under Low, with the light profile
pub record IsWorking (p : TapeState) : Type 0 where
  pub alone : length p.bots ≡ 1
  pub low : p.harmonics ≡ Low
  pub light : p.profile ≡ light_profile

-- the voxel would be grounded: it is on the floor, or next to a full one
abbrev pub IsCarried : Matrix → Coord → Type 0
IsCarried m c = (c.y ≡ 0) ⊎ ((b : Coord) × IsTrue (is_full m b) × IsTrue (are_adjacent c b))

-- the bot may go to the coordinate right above a voxel: from its height and from that coordinate's on all is void
pub record CanGoAbove (p : TapeState) (c : Coord) : Type 0 where
  pub working : IsWorking p
  pub within : IsInSpace p.matrix.resolution (above c)
  pub here : IsVoidFrom p.matrix (spot p.bots).y
  pub there : IsVoidFrom p.matrix (c.y + 1)
  pub limit : p.steps + moves_to (spot p.bots) (above c) < 1073741824

-- the bot may go there and fill the voxel
pub record CanFill (p : TapeState) (c : Coord) : Type 0 where
  pub can_go : CanGoAbove p c
  pub carried : IsCarried p.matrix c

-- the bot has come there, in this many steps without a Flip or a Fission, and the matrix is m
pub record Works (old new : TapeState) (to : Coord) (m : Matrix) (count : ℕ) : Type 0 where
  pub source : new.source ≡ old.source
  pub working : IsWorking new
  pub there : spot new.bots ≡ to
  pub matrix : new.matrix ≡ m
  pub steps : new.steps ≡ old.steps + count
  pub plain : All IsPlain old.commands → All IsPlain new.commands

-- before the first visit the bot is at the origin, and nothing is built
pub record HasNotBegun (s : Sweep) (p : TapeState) : Type 0 where
  pub spot_is : spot p.bots ≡ origin
  pub at : s.at ≡ origin
  pub nothing : IsVoidFrom p.matrix 0

-- the visited voxels are built, and the bot is above the last voxel of the trail
pub record IsBuilt (m : Matrix) (s : Sweep) (p : TapeState) : Type 0 where
  pub source : p.source ≡ empty m.resolution
  pub working : IsWorking p
  pub resolution : p.matrix.resolution ≡ m.resolution
  pub made : (c : Coord) → is_full p.matrix c ≡ (is_full m c && not (is_full s.remaining c))
  pub spot_is : (most : List Coord) (last : Coord) → s.trail.items ≡ most ++ last ∷ [] → spot p.bots ≡ above last
  pub first : s.trail.items ≡ [] → HasNotBegun s p
  pub plain : All IsPlain p.commands
  pub idle : IsEmpty m → p.commands ≡ []
  pub few : 15 * p.steps + 60 * full_count s.remaining + 15 * (length s.trail.items - 1)
      ≤ 60 * full_count m + reach m.resolution s.at

-- all is built, and from the height of the bot on all is void
pub record IsFinished (m : Matrix) (p : TapeState) : Type 0 where
  pub source : p.source ≡ empty m.resolution
  pub working : IsWorking p
  pub resolution : p.matrix.resolution ≡ m.resolution
  pub made : AreAlike p.matrix m
  pub placed : IsInSpace m.resolution (spot p.bots)
  pub here : IsVoidFrom p.matrix (spot p.bots).y
  pub plain : All IsPlain p.commands
  pub idle : IsEmpty m → p.commands ≡ []
  pub origin_is : IsEmpty m → spot p.bots ≡ origin
  pub few : 15 * p.steps ≤ 60 * full_count m + 3 * (m.resolution * m.resolution * m.resolution)
