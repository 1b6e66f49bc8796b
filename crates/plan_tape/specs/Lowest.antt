-- The lowest layer in which two models differ.
use Rattle.std.specs.Prelude.{◌≡◌, ◌≢◌, ℕ, ◌<◌}
use Rattle.vox_geom.specs.declared.coordinate.Coord.{Coord}
use Rattle.nano_spec.specs.Matrix.{Matrix, is_full}

-- the layer of y is the lowest one in which two models differ
pub record IsLowest (source target : Matrix) (y : ℕ) : Type 0 where
  pub within : y < source.resolution
  pub below : (c : Coord) → c.y < y → is_full source c ≡ is_full target c
  pub at : Coord
  pub here : at.y ≡ y
  pub differ : is_full source at ≢ is_full target at
