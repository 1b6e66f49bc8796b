-- The tape after each phase of the plan.
use Rattle.std.specs.Prelude.{◌≡◌, ℕ, ◌+◌, ◌≤◌, false}
use Rattle.vox_geom.specs.declared.coordinate.Coord.{Coord}
use Rattle.nano_spec.specs.declared.system.Harmonics.TheVariants.{High}
use Rattle.nano_spec.specs.Matrix.{Matrix, is_full}
use Rattle.nano_spec.specs.Profile.{full_profile}
use Rattle.plan_tape.specs.Leg.{moves_to}
use Rattle.plan_tape.specs.Progress.{TapeState, spot, IsVoidFrom, top}
use Rattle.void_planner.specs.Square.{IsRectangle, one}
use Rattle.void_planner.specs.Tiles.{far_of}
use Rattle.vox_geom.specs.Point.{coord}

-- no voxel is full
abbrev pub IsVoidModel : Matrix → Type 0
IsVoidModel m = (c : Coord) → is_full m c ≡ false

-- there are four bots, above the corners of a tile
pub record IsSpread (t : TapeState) : Type 0 where
  pub matrix : t.matrix ≡ t.source
  pub square : IsRectangle t (far_of t.matrix.resolution) (far_of t.matrix.resolution)
  pub there : spot t.bots ≡ top t.source
  pub steps_are : t.steps ≤ 34

-- under High, all is void, and there is one bot, at most this many steps from home
pub record IsGathered (t : TapeState) (most : ℕ) : Type 0 where
  pub void : IsVoidFrom t.matrix 0
  pub high : t.harmonics ≡ High
  pub full : t.profile ≡ full_profile
  pub bots_are : t.bots ≡ one (spot t.bots)
  pub steps_are : t.steps + moves_to (spot t.bots) (coord 0 0 0) ≤ most
