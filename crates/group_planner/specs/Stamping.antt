-- The voxels of a model written by parts of the plan, and the cost.
use Rattle.std.specs.Prelude.{◌≡◌, ℕ, ◌+◌, ◌-◌, ◌*◌, ◌≤◌, ◌<◌, Bool, cond, ◌&&◌, nat_le, nat_lt}
use Rattle.vox_geom.specs.declared.coordinate.Coord.{Coord}
use Rattle.nano_spec.specs.Matrix.{Matrix, is_full}
use Rattle.plan_tape.specs.Leg.{gap}
use Rattle.plan_tape.specs.Progress.{TapeState, IsVoidFrom}
use Rattle.group_planner.specs.Pair.{AreSet, IsPair, Spends, front, in_part, rear}
use Rattle.group_planner.specs.Rows.{is_row, one_if, rows_of_layer, runs_of_layer, runs_of_row, sum_below}

-- fifteen times the steps, and the distance of both bots from a position of their row
abbrev pub work_to : TapeState → ℕ → ℕ
work_to p z = 15 * p.steps + (gap (rear p).z z + gap (front p).z z)

-- fifteen times the steps, and how far the bots are from the ends of a run
abbrev pub work_at : TapeState → ℕ → ℕ → ℕ
work_at p first last = 15 * p.steps + (gap (rear p).z first + gap (front p).z last)

-- the steps, and how far the pair is from a height
abbrev pub climb_to : TapeState → ℕ → ℕ
climb_to p y = p.steps + gap (rear p).y y

-- 15 * 2^30: a tape has at most 2^30 steps
abbrev pub most_work : ℕ
most_work = 16106127360

-- the pair has made voxels of the row below it full, or void, on its way forth or back along the row
pub record WritesRun (old new : TapeState) (first end : ℕ) (full : Bool) : Type 0 where
  pub source : new.source ≡ old.source
  pub resolution : new.matrix.resolution ≡ old.matrix.resolution
  pub set : AreSet new.matrix old.matrix (in_part (rear old).x ((rear old).y - 1) first end) full
  pub pair : IsPair new
  pub same_x : (rear new).x ≡ (rear old).x
  pub same_y : (rear new).y ≡ (rear old).y
  pub forth : work_to new end ≤ work_to old first + 45 + 2 * (end - first)
  pub back : work_to new first ≤ work_to old end + 45 + 2 * (end - first)
  pub spends : Spends old new 1

-- if the test holds, the voxels that are full in the model are full, or void; all others are unchanged
abbrev pub AreStamped : Matrix → Matrix → Matrix → Bool → (Coord → Bool) → Type 0
AreStamped new old model full done = (c : Coord) → is_full new c ≡ cond (done c && is_full model c) full (is_full old c)

-- the pair has made voxels of the model full, or void, at most this many runs
pub record Stamps (old new : TapeState) (model : Matrix) (full : Bool) (done : Coord → Bool) (runs : ℕ) : Type 0 where
  pub source : new.source ≡ old.source
  pub resolution : new.matrix.resolution ≡ old.matrix.resolution
  pub stamped : AreStamped new.matrix old.matrix model full done
  pub pair : IsPair new
  pub spends : Spends old new runs

-- the layers from a lowest one on and below that of y
abbrev pub between_layers : ℕ → ℕ → Coord → Bool
between_layers low y c = nat_le low c.y && nat_lt c.y y

-- the pair can write the layer of y of a model: above it all is void
pub record CanStamp (p : TapeState) (model : Matrix) (y : ℕ) : Type 0 where
  pub pair : IsPair p
  pub same : model.resolution ≡ p.matrix.resolution
  pub within : y + 1 < p.matrix.resolution
  pub above : IsVoidFrom p.matrix (y + 1)

-- the pair can void a model: its voxels are those of the model, and the top layer is void
pub record CanVoidModel (p : TapeState) (model : Matrix) : Type 0 where
  pub pair : IsPair p
  pub same : model.resolution ≡ p.matrix.resolution
  pub alike : (c : Coord) → is_full p.matrix c ≡ is_full model c
  pub top : IsVoidFrom p.matrix (p.matrix.resolution - 1)

-- the most steps for the runs of a row, with the path to it
abbrev pub row_steps : Matrix → ℕ → ℕ → ℕ
row_steps m x y = 135 * one_if (is_row m x y) + 3 * runs_of_row m x y

-- the most for those of a layer
abbrev pub stamping_steps : Matrix → ℕ → ℕ
stamping_steps m y = 135 * rows_of_layer m y + 3 * runs_of_layer m y

-- the most for those of the layers below y
abbrev pub steps_below : Matrix → ℕ → ℕ
steps_below m y = sum_below (stamping_steps m) y
