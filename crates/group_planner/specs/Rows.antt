-- The rows and the runs of a model.
use Rattle.std.specs.Prelude.{ℕ, zero, suc, ◌+◌, ◌%◌, Bool, cond, ◌&&◌, ◌==◌, nat_lt, sum_by}
use Rattle.vox_geom.specs.Space.{numbers_below}
use Rattle.nano_spec.specs.Matrix.{Matrix, is_full}

-- the sum of a function over the numbers below n
unfoldable pub sum_below : (ℕ → ℕ) → ℕ → ℕ
sum_below f n = sum_by f (numbers_below n)

-- 1 if it holds
abbrev pub one_if : Bool → ℕ
one_if b = cond b 1 0

-- the count of the numbers below n that pass a test
abbrev pub count_below : (ℕ → Bool) → ℕ → ℕ
count_below test n = sum_below (λ k. one_if (test k)) n

-- whether the line of x and y is full at z
abbrev pub is_full_at : Matrix → ℕ → ℕ → ℕ → Bool
is_full_at m x y z = is_full m (record { x = x; y = y; z = z })

-- whether the line of x and y is a row: it has a full voxel
abbrev pub is_row : Matrix → ℕ → ℕ → Bool
is_row m x y = nat_lt 0 (count_below (is_full_at m x y) m.resolution)

-- the number of consecutive full voxels directly before z
unfoldable pub full_before : Matrix → ℕ → ℕ → ℕ → ℕ
full_before m x y zero = 0
full_before m x y (suc z) = cond (is_full_at m x y z) (full_before m x y z + 1) 0

-- whether a run begins at z: the voxel is full, and a multiple of 31 full ones directly precedes it
abbrev pub begins_run : Matrix → ℕ → ℕ → ℕ → Bool
begins_run m x y z = is_full_at m x y z && full_before m x y z % 31 == 0

-- the number of rows of the layer of y
abbrev pub rows_of_layer : Matrix → ℕ → ℕ
rows_of_layer m y = count_below (λ x. is_row m x y) m.resolution

-- the number of rows of a model
abbrev pub rows : Matrix → ℕ
rows m = sum_below (rows_of_layer m) m.resolution

-- the number of runs of the line of x and y
abbrev pub runs_of_row : Matrix → ℕ → ℕ → ℕ
runs_of_row m x y = count_below (begins_run m x y) m.resolution

-- the number of runs of the layer of y
abbrev pub runs_of_layer : Matrix → ℕ → ℕ
runs_of_layer m y = sum_below (λ x. runs_of_row m x y) m.resolution

-- the number of runs of a model
abbrev pub runs : Matrix → ℕ
runs m = sum_below (runs_of_layer m) m.resolution
