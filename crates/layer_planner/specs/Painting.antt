-- The voxels changed by a part of the plan: some are those of a goal, and the others are unchanged.
use Rattle.std.specs.Prelude.{◌≡◌, ℕ, ◌+◌, ◌*◌, ◌≤◌, ◌<◌, Bool, cond, length}
use Rattle.vox_geom.specs.declared.coordinate.Coord.{Coord}
use Rattle.vox_geom.specs.Space.{IsInSpace}
use Rattle.nano_spec.specs.declared.system.Harmonics.TheVariants.{High}
use Rattle.nano_spec.specs.Matrix.{Matrix, is_full}
use Rattle.nano_spec.specs.Profile.{full_profile}
use Rattle.plan_tape.specs.Fissions.{fissions}
use Rattle.plan_tape.specs.Leg.{moves_to}
use Rattle.plan_tape.specs.Progress.{TapeState, bytes, spot, IsVoidFrom}

-- if the test holds, the voxels are those of the goal, otherwise those of the old matrix
abbrev pub IsPartlyBuilt : Matrix → Matrix → Matrix → (Coord → Bool) → Type 0
IsPartlyBuilt new old goal done = (c : Coord) → is_full new c ≡ cond (done c) (is_full goal c) (is_full old c)

-- the most bytes of a row, with the moves to the next one
abbrev pub row_bytes : ℕ → ℕ
row_bytes r = 4 * r + 2

-- the most bytes of a layer, with the moves to the next one
abbrev pub layer_bytes : ℕ → ℕ
layer_bytes r = r * row_bytes r + r + 2

-- the first and single bot is in space, under High, and all is void from its height on
pub record CanSweep (p : TapeState) (goal : Matrix) : Type 0 where
  pub alone : length p.bots ≡ 1
  pub unsplit : fissions p ≡ 0
  pub high : p.harmonics ≡ High
  pub full : p.profile ≡ full_profile
  pub same : goal.resolution ≡ p.matrix.resolution
  pub placed : IsInSpace p.matrix.resolution (spot p.bots)
  pub here : IsVoidFrom p.matrix (spot p.bots).y

-- moreover all is void above the layer of y
pub record CanPaint (p : TapeState) (goal : Matrix) (y : ℕ) : Type 0 where
  pub sweep : CanSweep p goal
  pub within : y + 1 < p.matrix.resolution
  pub above : IsVoidFrom p.matrix (y + 1)

-- the bytes of a tape and of the moves that lead its bot to a coordinate
abbrev pub bytes_to : TapeState → Coord → ℕ
bytes_to p c = bytes p + 2 * moves_to (spot p.bots) c

-- no fewer than the steps of a tape and of those moves
abbrev pub sweep_steps_to : TapeState → Coord → ℕ
sweep_steps_to p c = p.steps + 2 * moves_to (spot p.bots) c

-- the tape has painted the voxels for which the test holds;
-- its bytes and steps with those to `last` exceed the earlier ones with those to `first` by at most `most`
pub record Paints (old new : TapeState) (goal : Matrix) (done : Coord → Bool) (first last : Coord) (most : ℕ)
    : Type 0 where
  pub source : new.source ≡ old.source
  pub resolution : new.matrix.resolution ≡ old.matrix.resolution
  pub painted : IsPartlyBuilt new.matrix old.matrix goal done
  pub ready : CanSweep new goal
  pub bytes_are : bytes_to new last ≤ bytes_to old first + most
  pub steps_are : sweep_steps_to new last ≤ sweep_steps_to old first + most
