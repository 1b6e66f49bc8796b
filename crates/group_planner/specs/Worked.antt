-- Worked examples of rows and runs.
use Rattle.std.specs.Prelude.{◌≡◌, ℕ, true, false, [], ◌∷◌, replicate}
use Rattle.nano_spec.specs.Matrix.{Matrix}
use Rattle.group_planner.specs.Bounds.{most_bytes, most_group_steps}
use Rattle.group_planner.specs.Rows.{rows, runs_of_row}

-- the line of x = 0 and y = 0 is full, from one end of the matrix to the other, and no other voxel is
abbrev pub one_line : ℕ → Matrix
one_line r = record { resolution = r; voxels = replicate r true }

-- the voxels (0,0,0) and (0,0,2), at resolution 3
abbrev pub with_a_gap : Matrix
with_a_gap = record { resolution = 3; voxels = true ∷ false ∷ true ∷ [] }

-- two full lines and a voxel of a third, at resolution 4
abbrev pub three_lines : Matrix
three_lines = record { resolution = 4; voxels = replicate 9 true }

pub record WorkedRows : Type 0 where
  -- a run has 31 voxels at most
  pub one_run_of_31 : runs_of_row (one_line 31) 0 0 ≡ 1
  pub two_runs_of_32 : runs_of_row (one_line 32) 0 0 ≡ 2
  -- a void voxel ends a run
  pub a_run_behind_a_gap : runs_of_row with_a_gap 0 0 ≡ 2
  pub one_row : rows with_a_gap ≡ 1
  -- 8 for each of five runs, 160 for each of four rows, 200 for the source's resolution, and 400
  pub steps : most_group_steps with_a_gap three_lines ≡ 1680
  -- 36 for each run, 640 for each row, 800 for the source's resolution, and 1600
  pub bytes : most_bytes with_a_gap three_lines ≡ 6740
