-- The number of moves from a row, a layer and a voxel to the next one.
use Rattle.std.proofs.Common.{ℕ, ◌+◌, ◌*◌, ◌≤◌, arith}
use Rattle.vox_geom.specs.Point.{coord}
use Rattle.plan_tape.specs.Leg.{moves_to}

-- from the end of a row to the next one
pub next_row : (x y r : ℕ) → 2 ≤ r → 2 * moves_to (coord x y r) (coord (x + 1) y 0) ≤ r + 2
next_row x y r h = omega (arith)

-- from the end of a layer to the one below or above
pub next_layer : (r y z : ℕ) → 2 ≤ r → y ≤ z + 1 → z ≤ y + 1 → 2 * moves_to (coord r y 0) (coord 0 z 0) ≤ r + 2
next_layer r y z h l m = omega (arith)

pub next_voxel : (x y z : ℕ) → 2 * moves_to (coord x y z) (coord x y (z + 1)) ≤ 2
next_voxel x y z = omega (arith)
