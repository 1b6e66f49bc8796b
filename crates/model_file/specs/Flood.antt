-- A search from the floor: the remaining voxels of a matrix, and the frontier of removed voxels that are not expanded
-- yet.
use Rattle.std.specs.Prelude.{◌≡◌, ◌⊎◌, ℕ, zero, suc, ◌+◌, ◌-◌, ◌*◌, ◌%◌, ◌<◌, ◌≤◌, Bool, true, false, cond, IsTrue, length, Contains}
use Rattle.vox_geom.specs.declared.coordinate.Coord.{Coord}
use Rattle.vox_geom.specs.Point.{are_adjacent}
use Rattle.vox_geom.specs.Space.{IsInSpace, coordinate_at}
use Rattle.nano_spec.specs.Grounded.{Grounded}
use Rattle.nano_spec.specs.Matrix.{Matrix, is_full}
use Rattle.nano_spec.specs.Model.{bit}
use Rattle.model_file.specs.declared.flood.Flood.{Flood}
use Rattle.model_file.specs.declared.flood.Stretch.{Stretch}

-- the coordinate is one of the segment
pub record IsAmong (s : Stretch) (c : Coord) : Type 0 where
  pub x : c.x ≡ s.first.x
  pub y : c.y ≡ s.first.y
  pub from : s.first.z ≤ c.z
  pub to : c.z < s.first.z + 64
  pub here : bit s.bits (c.z - s.first.z) ≡ true

-- the coordinate is next to one of the segment
pub record IsBeside (s : Stretch) (d : Coord) : Type 0 where
  pub one : Coord
  pub among : IsAmong s one
  pub adjacent : IsTrue (are_adjacent one d)

-- a segment begins in a matrix of this resolution, at each 64th coordinate of a row
pub record IsStart (r : ℕ) (s : Stretch) : Type 0 where
  pub within : IsInSpace r s.first
  pub each : s.first.z % 64 ≡ 0

-- how many of the first numbers pass a test
unfoldable pub passing : (ℕ → Bool) → ℕ → ℕ
passing test zero = 0
passing test (suc n) = passing test n + cond (test n) 1 0

-- how many voxels of a matrix of this resolution are full
unfoldable pub full_of : ℕ → Matrix → ℕ
full_of r m = passing (λ p. is_full m (coordinate_at r p)) (r * r * r)

-- the number of remaining voxels and of segments of the frontier
abbrev pub weight : Flood → ℕ
weight f = full_of f.remaining.resolution f.remaining + length f.found.items

-- the coordinate is one of the frontier
pub record HasFound (f : Flood) (c : Coord) : Type 0 where
  pub stretch : Stretch
  pub is_found : Contains f.found.items stretch
  pub among : IsAmong stretch c

-- the voxel was there before and does not remain
pub record IsTaken (old new : Matrix) (c : Coord) : Type 0 where
  pub before : IsTrue (is_full old c)
  pub after : is_full new c ≡ false

-- the effect of a part of the search: it removes voxels that are near, and each that it removes joins the frontier
pub record TakesOut (near : Coord → Type 0) (old new : Flood) : Type 0 where
  pub resolution : new.remaining.resolution ≡ old.remaining.resolution
  pub fewer : (d : Coord) → is_full old.remaining d ≡ false → is_full new.remaining d ≡ false
  pub taken : (d : Coord) → IsTaken old.remaining new.remaining d → near d × HasFound new d
  pub kept : (d : Coord) → HasFound old d → HasFound new d
  pub found : (d : Coord) → HasFound new d → HasFound old d ⊎ IsTaken old.remaining new.remaining d
  pub starts : (s : Stretch) → Contains new.found.items s
      → Contains old.found.items s ⊎ (IsInSpace old.remaining.resolution s.first × (s.first.z % 64 ≡ 0))
  pub weighs : weight new ≤ weight old

-- the invariant of a search of the matrix: removed voxels are grounded, and the frontier is removed; no neighbor of a
-- removed voxel remains, unless that voxel is in the frontier
pub record IsFlood (m : Matrix) (f : Flood) : Type 0 where
  pub resolution : f.remaining.resolution ≡ m.resolution
  pub fewer : (c : Coord) → is_full m c ≡ false → is_full f.remaining c ≡ false
  pub grounded : (c : Coord) → IsTaken m f.remaining c → Grounded m c
  pub found : (c : Coord) → HasFound f c → IsTaken m f.remaining c
  pub looked : (a b : Coord) → IsTaken m f.remaining a → IsTrue (are_adjacent a b) → IsTrue (is_full f.remaining b)
      → HasFound f a
  pub floor : (c : Coord) → c.y ≡ 0 → is_full f.remaining c ≡ false

-- the remaining voxels are a part of the matrix, and those that were removed from it are grounded
pub record IsBegun (m : Matrix) (f : Flood) : Type 0 where
  pub resolution : f.remaining.resolution ≡ m.resolution
  pub fewer : (c : Coord) → is_full m c ≡ false → is_full f.remaining c ≡ false
  pub grounded : (c : Coord) → IsTaken m f.remaining c → Grounded m c

-- the coordinate is one of 64 of a row from a first one on
pub record IsNextTo (first c : Coord) : Type 0 where
  pub x : c.x ≡ first.x
  pub y : c.y ≡ first.y
  pub from : first.z ≤ c.z
  pub to : c.z < first.z + 64

-- the bits of a segment are 1 for the coordinates that were removed
pub record AreOut (m left : Matrix) (first : Coord) (bits : ℕ) : Type 0 where
  pub out : (c : Coord) → IsAmong (record { first = first; bits = bits }) c → IsTaken m left c
  pub all : (c : Coord) → IsNextTo first c → IsTaken m left c → IsAmong (record { first = first; bits = bits }) c

-- the search visited the neighbors of the removed voxels of an area: the voxels that it removed are grounded, and no
-- neighbor remains
pub record LooksAround (m : Matrix) (area : Coord → Type 0) (old new : Flood) : Type 0 where
  pub takes : TakesOut (Grounded m) old new
  pub bare : (c d : Coord) → area c → IsTaken m old.remaining c → IsTrue (are_adjacent c d)
      → is_full new.remaining d ≡ false
