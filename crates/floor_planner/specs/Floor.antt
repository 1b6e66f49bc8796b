-- Models that lie on the floor, and the voxels after a sweep over it.
use Rattle.std.specs.Prelude.{◌≡◌, ℕ, ◌+◌, ◌*◌, ◌≤◌, Bool, false, ◌&&◌, ◌||◌, ◌==◌, nat_lt, length, IsTrue}
use Rattle.vox_geom.specs.declared.coordinate.Coord.{Coord}
use Rattle.vox_geom.specs.Space.{IsInSpace}
use Rattle.nano_spec.specs.declared.system.Harmonics.TheVariants.{High}
use Rattle.nano_spec.specs.Matrix.{Matrix, empty, is_full, matrix_where}
use Rattle.nano_spec.specs.Profile.{full_profile}
use Rattle.plan_tape.specs.Progress.{TapeState, spot}

-- each full voxel lies on the floor
abbrev pub IsFlat : Matrix → Type 0
IsFlat m = (c : Coord) → IsTrue (is_full m c) → c.y ≡ 0

-- whether a sweep by rows that has reached x and z has passed a coordinate
abbrev pub is_passed : ℕ → ℕ → Coord → Bool
is_passed x z c = nat_lt c.x x || (c.x == x && nat_lt c.z z)

-- the matrix of those voxels of the target that are passed
abbrev pub swept : Matrix → ℕ → ℕ → Matrix
swept target x z = matrix_where target.resolution (λ c. is_full target c && is_passed x z c)

-- the tape when the sweep has reached x and z
pub record IsSweptTo (t : TapeState) (target : Matrix) (x z : ℕ) : Type 0 where
  pub source : t.source ≡ empty target.resolution
  pub matrix : t.matrix ≡ swept target x z
  pub profile : t.profile ≡ full_profile
  pub high : t.harmonics ≡ High
  pub alone : length t.bots ≡ 1
  pub placed : IsInSpace target.resolution (spot t.bots)
  pub above : (c : Coord) → (spot t.bots).y ≤ c.y → is_full t.matrix c ≡ false
  pub few : t.steps ≤ 1 + 82 * (x * target.resolution + z)
