-- The first of the tallest columns, found by one pass over them.
use Rattle.std.specs.Prelude.{ℕ, ◌+◌, ◌-◌, ◌<◌, ◌≤◌, cond, nat_lt, List, [], ◌∷◌, map}
use Rattle.vox_geom.specs.Space.{numbers_from}
use Rattle.nano_spec.specs.Forge.{Column, column_height}
use Rattle.model_forge.specs.declared.tower.Tower.{Tower}

-- the tower, or a column that is higher
abbrev pub higher : Tower → ℕ → ℕ → Tower
higher tower h z = cond (nat_lt tower.height h) (record { height = h; z = z }) tower

-- the tower, or the first of the tallest columns if that is higher
abbrev pub highest : ℕ → ℕ → Tower → List Column → Tower
highest number r tower [] = tower
highest number r tower (k ∷ more) = highest number r (higher tower (column_height number r k.x k.z) k.z) more

-- n columns of one x, from one on
abbrev pub columns_from : ℕ → ℕ → ℕ → List Column
columns_from x first count = map (λ z. record { x = x; z = z }) (numbers_from first count)

-- the columns of one x
abbrev pub columns_of : ℕ → ℕ → List Column
columns_of r x = columns_from x 1 (r - 2)

-- a tower of some height is inside
pub record IsInside (r : ℕ) (tower : Tower) : Type 0 where
  pub low : 0 < tower.height → 1 ≤ tower.z
  pub high : 0 < tower.height → tower.z + 1 < r
