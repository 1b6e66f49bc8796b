-- The strips of columns, one for each bot, and the row of the bots.
use Rattle.std.specs.Prelude.{ℕ, zero, suc, ◌+◌, ◌-◌, ◌/◌, min, List, [], ◌∷◌}
use Rattle.vox_geom.specs.declared.coordinate.Coord.{Coord}
use Rattle.swarm_planner.specs.Bounds.{width}

-- the number of strips of the columns from 1 to r - 2
abbrev pub count : ℕ → ℕ
count r = (r - 3) / width r + 1

-- the last column of the last strip
abbrev pub last : ℕ → ℕ
last r = r - 2

-- a position limited to the last column
abbrev pub held : ℕ → Coord → Coord
held l c = record { x = min c.x l; y = c.y; z = c.z }

-- a position one width further along x
abbrev pub next : ℕ → Coord → Coord
next w c = record { x = c.x + w; y = c.y; z = c.z }

-- the positions of n bots, the first of them at c, each further one a width further along x, and none past the last
-- column
abbrev pub bot_row : ℕ → ℕ → ℕ → Coord → List Coord
bot_row w l zero c = []
bot_row w l (suc n) c = held l c ∷ bot_row w l n (next w c)

-- the row of all strips
abbrev pub strip_row : ℕ → Coord → List Coord
strip_row r c = bot_row (width r) (last r) (count r) c
