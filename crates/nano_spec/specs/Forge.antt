-- The forge: a legal model that is made from a number (this project's own: docs/FORMATS.md, "The forge").
use Rattle.std.specs.Prelude.{ℕ, ◌+◌, ◌*◌, ◌-◌, ◌%◌, Bool, cond, ◌&&◌, ◌||◌, nat_le, nat_lt, ◌==◌, max, List, [], ◌∷◌, map, flat_map, find, option_map, unwrap_or}
use Rattle.vox_geom.specs.declared.coordinate.Coord.{Coord}
use Rattle.vox_geom.specs.Space.{numbers_from}
use Rattle.nano_spec.specs.Matrix.{Matrix, matrix_where}

-- the mixed number of the column at x and z
abbrev pub mixed : ℕ → ℕ → ℕ → ℕ
mixed number x z = (number + 71 * x + 113 * z + 5 * x * x * z) % 1024

-- the height of the column at x and z: a third of the columns are 1 to r - 1 high
abbrev pub column_height : ℕ → ℕ → ℕ → ℕ → ℕ
column_height number r x z = cond (mixed number x z % 3 == 0) (1 + mixed number x z % (r - 1)) 0

-- the x and z of a possible column
pub record Column : Type 0 where
  pub x : ℕ
  pub z : ℕ

-- the numbers from 1 to r - 2
abbrev pub inner : ℕ → List ℕ
inner r = numbers_from 1 (r - 2)

-- all columns, by x and then z
abbrev pub columns : ℕ → List Column
columns r = flat_map (λ x. map (λ z. record { x = x; z = z }) (inner r)) (inner r)

-- the greatest of a list of numbers, and 0 if there is none
abbrev pub greatest : List ℕ → ℕ
greatest [] = 0
greatest (n ∷ more) = max n (greatest more)

-- the greatest height
abbrev pub tallest : ℕ → ℕ → ℕ
tallest number r = greatest (map (λ k. column_height number r k.x k.z) (columns r))

-- the z of the first column of the greatest height
abbrev pub line_of_tallest : ℕ → ℕ → ℕ
line_of_tallest number r =
    unwrap_or
    (option_map (λ (k : Column). k.z) (find (λ k. column_height number r k.x k.z == tallest number r) (columns r))) 0

-- whether a coordinate is above a possible column
abbrev pub is_inner : ℕ → Coord → Bool
is_inner r c = nat_le 1 c.x && nat_lt (c.x + 1) r && nat_le 1 c.z && nat_lt (c.z + 1) r

-- the columns up to their heights, and on the layer of the greatest height t the lines of even x and the line z0, which
-- join them
abbrev pub forged_by : ℕ → ℕ → ℕ → ℕ → Matrix
forged_by number r t z0 =
    matrix_where r
    (λ c. is_inner r c && (nat_lt c.y (column_height number r c.x c.z) || (c.y + 1 == t && (c.x % 2 == 0 || c.z == z0))))

-- the model of a number and a resolution
abbrev pub forged : ℕ → ℕ → Matrix
forged number r = forged_by number r (tallest number r) (line_of_tallest number r)
