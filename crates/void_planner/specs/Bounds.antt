-- The most steps of a void plan, by the square tiles of a layer (docs/FORMATS.md, "Printed lines").
use Rattle.std.specs.Prelude.{ℕ, ◌+◌, ◌*◌, ◌/◌}

-- the number of tiles of a layer along x, and along z
abbrev pub tiles_of : ℕ → ℕ
tiles_of r = (r + 30) / 31

-- the steps of a void plan at a resolution, at most
abbrev pub most_void_steps : ℕ → ℕ
most_void_steps r = 8 * r * (tiles_of r * tiles_of r) + 8 * r + 200
