-- The least coordinate of a matrix that passes a test, in the order by x, then y, then z (docs/FORMATS.md, "Geometry").
use Rattle.std.specs.Prelude.{ℕ, Bool, IsTrue, IsFalse, Option, Some, None}
use Rattle.vox_geom.specs.declared.coordinate.Coord.{Coord}
use Rattle.vox_geom.specs.Space.{IsInSpace, is_before}

-- the coordinate is in space and passes the test, and none that does is before it
pub record IsLeast (r : ℕ) (test : Coord → Bool) (c : Coord) : Type 0 where
  pub within : IsInSpace r c
  pub passes : IsTrue (test c)
  pub least : (d : Coord) → IsInSpace r d → IsTrue (test d) → IsFalse (is_before d c)

-- the least coordinate that passes the test, or `None` if none does
abbrev pub LeastOf : ℕ → (Coord → Bool) → Option Coord → Type 0
LeastOf r test (Some c) = IsLeast r test c
LeastOf r test None = (d : Coord) → IsInSpace r d → IsFalse (test d)
