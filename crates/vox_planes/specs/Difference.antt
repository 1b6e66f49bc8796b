-- The coordinates at which two matrices differ, layer by layer.
use Rattle.std.specs.Prelude.{ℕ, Bool, cond, ◌&&◌, ◌==◌, Option, Some, None}
use Rattle.vox_geom.specs.declared.coordinate.Coord.{Coord}
use Rattle.vox_geom.specs.Space.{is_before}
use Rattle.nano_spec.specs.Matrix.{Matrix, differ_at}

-- whether the matrices differ at a coordinate of the layer
abbrev pub in_layer_differ : Matrix → Matrix → ℕ → Coord → Bool
in_layer_differ m n y c = differ_at m n c && (c.y == y)

-- the earlier of two coordinates, or the only one
abbrev pub earlier : Option Coord → Option Coord → Option Coord
earlier None d = d
earlier (Some c) None = Some c
earlier (Some c) (Some d) = cond (is_before d c) (Some d) (Some c)
