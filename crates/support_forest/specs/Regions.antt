-- The full voxels of a region that become void, row by row, or are deferred.
use Rattle.std.specs.Prelude.{◌≡◌, ◌≢◌, ℕ, ◌+◌, ◌*◌, ◌<◌, ◌≤◌, ◌⊎◌, IsTrue, List, length}
use Rattle.std.specs.List.{AllPairs, Contains}
use Rattle.vox_geom.specs.declared.coordinate.Coord.{Coord}
use Rattle.vox_geom.specs.Point.{point}
use Rattle.vox_geom.specs.Region.{Corners, is_within, span}
use Rattle.support_forest.specs.Grid.{Grid, word_at}
use Rattle.support_forest.specs.Words.{AreExact, changed}

-- the voxel is one of n along z from this one on
abbrev pub IsInRow : Coord → ℕ → Coord → Type 0
IsInRow first n c = (c.x ≡ first.x) × (c.y ≡ first.y) × (first.z ≤ c.z) × (c.z < first.z + n)

-- the voxel is one of the region with this x, from this y on
abbrev pub IsInWall : Corners → ℕ → ℕ → Coord → Type 0
IsInWall k x y c = (c.x ≡ x) × (y ≤ c.y) × (c.y ≤ k.high.y) × (k.low.z ≤ c.z) × (c.z ≤ k.high.z)

-- the voxel is one of the region from this x on
abbrev pub IsInWalls : Corners → ℕ → Coord → Type 0
IsInWalls k x c = (x ≤ c.x) × (c.x ≤ k.high.x) × (k.low.y ≤ c.y) × (c.y ≤ k.high.y) × (k.low.z ≤ c.z) × (c.z ≤ k.high.z)

-- the voxel is one of the region
abbrev pub IsInRegion : Corners → Coord → Type 0
IsInRegion k c = IsTrue (is_within (span k) (point c))

-- the voxels of an area of n coordinates became void, or were deferred unchanged, and no others
pub record AreVoided (old new : Grid) (area : Coord → Type 0) (n : ℕ) (rest more : List Coord) : Type 0 where
  pub resolution : new.resolution ≡ old.resolution
  pub exact : AreExact new.resolution (word_at new)
  pub each : (c : Coord) → (word_at new c ≡ word_at old c) ⊎ ((word_at new c ≡ 0) × area c)
  pub done : (c : Coord) → area c → (word_at new c ≡ 0) ⊎ Contains more c
  pub kept : (c : Coord) → Contains rest c → Contains more c
  pub listed : (c : Coord) → Contains more c
      → Contains rest c ⊎ (area c × (0 < word_at old c) × (word_at new c ≡ word_at old c))
  pub differ : AllPairs ◌≢◌ rest → ((c : Coord) → Contains rest c → area c → ⊥) → AllPairs ◌≢◌ more
  pub few : length more ≤ length rest + n

-- the voxels of an area of n coordinates are void, and no others
pub record HaveVoided (old new : Grid) (area : Coord → Type 0) (n before after : ℕ) : Type 0 where
  pub resolution : new.resolution ≡ old.resolution
  pub exact : AreExact new.resolution (word_at new)
  pub full : (c : Coord) → 0 < word_at new c → 0 < word_at old c
  pub voided : (c : Coord) → area c → word_at new c ≡ 0
  pub kept : (c : Coord) → 0 < word_at old c → (0 < word_at new c) ⊎ area c
  pub cost : after ≤ before + 96 * n + 68 * changed old.resolution (word_at old) (word_at new)
