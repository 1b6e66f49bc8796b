-- The tape after each phase of the plan.
use Rattle.std.specs.Prelude.{◌≡◌, ℕ, ◌+◌, ◌-◌, ◌*◌, ◌≤◌, List, [], ◌∷◌, length}
use Rattle.vox_geom.specs.declared.coordinate.Coord.{Coord}
use Rattle.nano_spec.specs.declared.system.Bot.{Bot}
use Rattle.nano_spec.specs.declared.system.Harmonics.TheVariants.{High}
use Rattle.nano_spec.specs.Matrix.{Matrix}
use Rattle.nano_spec.specs.Profile.{full_profile}
use Rattle.nano_spec.specs.State.{first_bot}
use Rattle.plan_tape.specs.Fissions.{fissions}
use Rattle.plan_tape.specs.Progress.{TapeState, bots_at, bytes, spot}
use Rattle.group_planner.specs.Pair.{IsPair, Spends, rear}
use Rattle.group_planner.specs.Rows.{rows, runs}
use Rattle.vox_geom.specs.Point.{coord}

-- the first bot alone, at a coordinate
abbrev pub first_at : Coord → List Bot
first_at c = bots_at (first_bot full_profile ∷ []) c

-- the first and single bot has become two
pub record Splits (old new : TapeState) : Type 0 where
  pub source : new.source ≡ old.source
  pub matrix : new.matrix ≡ old.matrix
  pub pair : IsPair new
  pub rear_is : rear new ≡ spot old.bots
  pub steps_are : new.steps ≡ old.steps + 1
  pub spends : Spends old new 0

-- the pair has become one bot, at a coordinate, in at most this many steps
pub record PairJoins (old new : TapeState) (c : Coord) (steps : ℕ) : Type 0 where
  pub source : new.source ≡ old.source
  pub matrix : new.matrix ≡ old.matrix
  pub profile : new.profile ≡ full_profile
  pub harmonics : new.harmonics ≡ High
  pub alone : length new.bots ≡ 1
  pub one_split : fissions new ≡ 1
  pub there : spot new.bots ≡ c
  pub steps_are : new.steps ≤ old.steps + steps
  pub spends : Spends old new 0

-- the pair is at the top above the origin, under High, and nothing has changed
pub record PairIsOpened (t : TapeState) : Type 0 where
  pub matrix : t.matrix ≡ t.source
  pub pair : IsPair t
  pub there : rear t ≡ coord 0 (t.source.resolution - 1) 0
  pub steps_are : t.steps ≤ 30
  pub commands_are : length t.commands ≤ 2 * t.steps
  pub bytes_are : bytes t ≤ 4 * t.steps

-- the most steps of a plan without its last path home, by the rows and runs of both models
abbrev pub plan_steps : Matrix → Matrix → ℕ
plan_steps source target =
    3 * (runs source + runs target) + 135 * (rows source + rows target) + 3 * source.resolution + 40

-- the voxels of the source have become those of the target, written by the pair
pub record PairHasRebuilt (t : TapeState) (old target : Matrix) : Type 0 where
  pub source : t.source ≡ old
  pub matrix : t.matrix ≡ target
  pub pair : IsPair t
  pub steps_are : t.steps ≤ plan_steps old target
  pub commands_are : length t.commands ≤ 2 * t.steps
  pub bytes_are : bytes t ≤ 4 * t.steps + 4 * (runs old + runs target)
