-- Matrices in which the coordinates of a region were filled or voided.
use Rattle.std.specs.Prelude.{◌≡◌, ℕ, ◌+◌, Bool, cond, not, ◌&&◌, nat_le, nat_lt, count_by}
use Rattle.vox_geom.specs.declared.coordinate.Coord.{Coord}
use Rattle.vox_geom.specs.Point.{point}
use Rattle.vox_geom.specs.Region.{Corners, is_within, span}
use Rattle.nano_spec.specs.Matrix.{Matrix, all_of, is_full, matrix_where}
use Rattle.vox_planes.specs.Voxel.{is_state}

-- the matrix in which the voxels of a region are full or void, and all others as they were
abbrev pub with_box : Matrix → Corners → Bool → Matrix
with_box m k full = matrix_where m.resolution (λ d. cond (is_within (span k) (point d)) full (is_full m d))

-- how many voxels of the region do not have this state yet
abbrev pub other_count : Matrix → Corners → Bool → ℕ
other_count m k full = count_by (λ c. is_state m (not full) c && is_within (span k) (point c)) (all_of m)

-- the voxels of an area were filled or voided, and n of them did not have this state yet
pub record IsPainted (old new : Matrix) (area : Coord → Bool) (full : Bool) (n : ℕ) : Type 0 where
  pub value : new ≡ matrix_where old.resolution (λ d. cond (area d) full (is_full old d))
  pub count : n ≡ count_by (λ c. is_state old (not full) c && area c) (all_of old)

-- whether a number is one from a first one on and before an end
abbrev pub is_up_to : ℕ → ℕ → ℕ → Bool
is_up_to from end v = nat_le from v && nat_lt v end

-- whether a coordinate is of the box from one coordinate on and before another on each axis
abbrev pub is_in_box : Coord → Coord → Coord → Bool
is_in_box from end c = is_up_to from.x end.x c.x && is_up_to from.y end.y c.y && is_up_to from.z end.z c.z

-- whether a coordinate is of a row from one on to the last component z
abbrev pub is_in_row : Coord → ℕ → Coord → Bool
is_in_row first last c = is_in_box first (record { x = first.x + 1; y = first.y + 1; z = last + 1 }) c

-- whether a coordinate is of the region, has this y, and an x before an end
abbrev pub is_in_layer : Corners → ℕ → ℕ → Coord → Bool
is_in_layer k y end c =
    is_in_box (record { x = k.low.x; y = y; z = k.low.z }) (record { x = end; y = y + 1; z = k.high.z + 1 }) c

-- whether a coordinate is of the region and has an y before an end
abbrev pub is_in_layers : Corners → ℕ → Coord → Bool
is_in_layers k end c = is_in_box k.low (record { x = k.high.x + 1; y = end; z = k.high.z + 1 }) c
