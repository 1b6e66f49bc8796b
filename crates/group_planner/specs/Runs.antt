-- The next run of a row.
use Rattle.std.specs.Prelude.{◌≡◌, ℕ, ◌+◌, ◌-◌, ◌%◌, ◌<◌, ◌≤◌, Bool, true, false, not}
use Rattle.group_planner.specs.declared.run.RowRun.{RowRun}
use Rattle.nano_spec.specs.Matrix.{Matrix}
use Rattle.group_planner.specs.Rows.{begins_run, count_below, full_before, is_full_at, runs_of_row}

-- from the one z on and before the other the row is full everywhere, or void everywhere
abbrev pub IsAll : Matrix → ℕ → ℕ → ℕ → ℕ → Bool → Type 0
IsAll m x y from end full = (z : ℕ) → from ≤ z → z < end → is_full_at m x y z ≡ full

-- the first z from one on at which the row is full, or void, or the end if there is none
pub record IsRunEnd (m : Matrix) (x y from end : ℕ) (full : Bool) (z : ℕ) : Type 0 where
  pub low : from ≤ z
  pub high : z ≤ end
  pub others : IsAll m x y from z (not full)
  pub here : z < end → is_full_at m x y z ≡ full

-- no run goes across z: if the voxel is full, a multiple of 31 full ones directly precedes it
abbrev pub IsCut : Matrix → ℕ → ℕ → ℕ → Type 0
IsCut m x y z = is_full_at m x y z ≡ true → full_before m x y z % 31 ≡ 0

-- a run of the row
pub record IsRun (m : Matrix) (x y : ℕ) (run : RowRun) : Type 0 where
  pub some : run.first < run.end
  pub most : run.end ≤ run.first + 31
  pub within : run.end ≤ m.resolution
  pub full : IsAll m x y run.first run.end true
  pub cut : IsCut m x y run.end

-- the number of runs of a row that begin before z
abbrev pub runs_before : Matrix → ℕ → ℕ → ℕ → ℕ
runs_before m x y z = count_below (begins_run m x y) z

-- and the number from z on
abbrev pub runs_from : Matrix → ℕ → ℕ → ℕ → ℕ
runs_from m x y z = runs_of_row m x y - runs_before m x y z

-- the first run of a row from a z on
pub record IsNextRun (m : Matrix) (x y z : ℕ) (run : RowRun) : Type 0 where
  pub is_run : IsRun m x y run
  pub low : z ≤ run.first
  pub void : IsAll m x y z run.first false
  pub one_more : runs_before m x y run.end ≡ runs_before m x y z + 1

-- from z on the row is void
pub record IsNoRun (m : Matrix) (x y z : ℕ) : Type 0 where
  pub void : IsAll m x y z m.resolution false
  pub none_more : runs_before m x y m.resolution ≡ runs_before m x y z
