-- The view that callers have of a list of coordinates with capacity reserved beforehand.
use Rattle.std.specs.Prelude.{ℕ, List}
use Rattle.vox_geom.specs.declared.coordinate.Coord.{Coord}

-- the coordinates, and how many more there is capacity for
pub record Changes : Type 0 where
  pub items : List Coord
  pub spare : ℕ
