-- The number of bytes and steps of a plan.
use Rattle.std.proofs.Common.{◌≡◌, ℕ, zero, suc, ◌+◌, ◌-◌, ◌*◌, ◌<◌, ◌≤◌, arith}
use Rattle.plan_tape.specs.Leg.{moves_to}
use Rattle.layer_planner.specs.Painting.{layer_bytes}
use Rattle.vox_geom.specs.Point.{coord}
use Rattle.vox_geom.proofs.Sums.{most_cube}

-- both sweeps, the path up, the path home, two Flips and the Halt
pub total : (r : ℕ) → 1 ≤ r → r + 3 + 2 * ((r - 1) * layer_bytes r) + 2 * r + 2 ≤ 8 * r * r * r + 200
total zero h = omega arith
total (suc s) h = let difference_is : suc s - 1 ≡ s = omega arith in rw difference_is (omega arith)

pub total_fits : (r : ℕ) → 1 ≤ r → r ≤ 400 → r + 3 + 2 * ((r - 1) * layer_bytes r) + 2 * r + 2 < 1073741824
total_fits r h l = omega (arith, total r h, most_cube r l)

pub way_up : (r : ℕ) → 1 ≤ r → 2 * moves_to (coord 0 0 0) (coord 0 (r - 1) 0) ≤ r
way_up r h = omega arith

pub way_down : (r : ℕ) → 1 ≤ r → 2 * moves_to (coord 0 r 0) (coord 0 0 0) ≤ r + 1
way_down r h = omega arith
