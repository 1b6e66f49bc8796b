-- The number of moves of a sweep, and that a bot has room above a voxel.
use Rattle.std.proofs.Common.{◌≡◌, ℕ, ◌+◌, ◌*◌, ◌<◌, ◌≤◌, arith}
use Rattle.std.specs.Prelude.{IsTrue}
use Rattle.std.proofs.Math.Arith.{digits_lt}
use Rattle.std.proofs.Math.Nat.{mul-le-mul_left}
use Rattle.vox_geom.specs.declared.coordinate.Coord.{Coord}
use Rattle.vox_geom.specs.Space.{IsInSpace}
use Rattle.nano_spec.specs.Legal.{IsLegal}
use Rattle.nano_spec.specs.Matrix.{Matrix, is_full}
use Rattle.plan_tape.specs.Leg.{distance, moves_to}
use Rattle.low_planner.specs.Build.{above}
use Rattle.low_planner.specs.Sweep.{AreBesideInLayer, reach}
use Rattle.low_planner.proofs.Beside.{beside_gap}
use Rattle.plan_tape.proofs.LegalModels.{full_in_box, full_within}

-- fifteen for each move are at most the path and 42, since each of the three legs may fall short by fourteen
pub moves_paid : (a b : Coord) → 15 * moves_to a b ≤ distance a b + 42
moves_paid a b = omega arith

pub one_move : (a b : Coord) → AreBesideInLayer a b → moves_to (above a) (above b) ≡ 1
one_move a b h = let gap_one = beside_gap a b h in let level = h.level in omega arith

-- ---- legal models

pub above_in_space : (m : Matrix) (c : Coord) → IsLegal m → IsTrue (is_full m c) → IsInSpace m.resolution (above c)
above_in_space m c h f = let is_within = full_within m c f in record { x = is_within.x; y = (full_in_box m c h f).y_end; z = is_within.z }

-- ---- the length of a sweep

pub reach_most : (r : ℕ) (c : Coord) → IsInSpace r c → reach r c ≤ 3 * (r * r * r)
reach_most r c h =
    let front : c.y * r + c.x < r * r = digits_lt h.y h.x in
    let less : c.y * r + c.x + 1 ≤ r * r = omega arith in
    let rows : r * (c.y * r + c.x + 1) ≤ r * (r * r) = mul-le-mul_left r less in
    let along_z = h.z in
    omega arith
