-- The paths of the single bot, and whole plans.
use Rattle.std.proofs.Common.{◌≡◌, ℕ, ◌+◌, ◌-◌, ◌*◌, ◌<◌, ◌≤◌, ap, arith, mul-le-mul}
use Rattle.nano_spec.specs.Matrix.{Matrix}
use Rattle.vox_planes.specs.Voxel.{IsWhole}
use Rattle.plan_tape.specs.Frame.{HasRisen}
use Rattle.plan_tape.specs.Leg.{moves, moves_to}
use Rattle.plan_tape.specs.Progress.{TapeState, top}
use Rattle.group_planner.specs.Rows.{is_row, rows, rows_of_layer, runs, runs_of_layer, runs_of_row}
use Rattle.group_planner.proofs.Counts.{count_below-most, sum_below-most}
use Rattle.vox_geom.specs.Point.{coord}

-- ---- the single bot

up_moves : (r : ℕ) → 1 ≤ r → r ≤ 400 → moves_to (coord 0 0 0) (coord 0 (r - 1) 0) ≤ 27
up_moves r h l = omega arith

-- at most 28 steps lead to the top
pub risen_few : (t : TapeState) (source : Matrix) → HasRisen t → t.source ≡ source → IsWhole source → t.steps ≤ 28
risen_few t source h e w =
    let steps = h.steps in
    let way = ap (λ (m : Matrix). moves_to (coord 0 0 0) (top m)) e in
    omega (arith, steps, way, up_moves source.resolution w.some w.most)

pub down_moves : (y r : ℕ) → y < r → r ≤ 400 → moves_to (coord 0 y 0) (coord 0 0 0) ≤ 27
down_moves y r h l = omega arith

pub gather_moves : (x u v r : ℕ) → x < r → u < r → v < r → r ≤ 400 → moves x 0 + moves u 0 + moves v 1 + 1 ≤ 82
gather_moves x u v r hx hu hv l = omega arith

-- ---- the most rows and runs

rows_most : (m : Matrix) → rows m ≤ m.resolution * m.resolution
rows_most m = sum_below-most (rows_of_layer m) m.resolution m.resolution (λ y. count_below-most (λ x. is_row m x y) m.resolution)

runs_most : (m : Matrix) → runs m ≤ m.resolution * (m.resolution * m.resolution)
runs_most m = sum_below-most (runs_of_layer m) m.resolution (m.resolution * m.resolution) (λ y. sum_below-most (λ x. runs_of_row m x y) m.resolution m.resolution (λ x. count_below-most _ m.resolution))

square : (r : ℕ) → r ≤ 400 → r * r ≤ 160000
square r h = mul-le-mul h h

cube : (r : ℕ) → r ≤ 400 → r * (r * r) ≤ 64000000
cube r h = mul-le-mul h (square r h)

-- a plan has fewer than 2^30 steps
pub plan_fits : (s t : Matrix) → s.resolution ≤ 400 → t.resolution ≡ s.resolution
    → 3 * (runs s + runs t) + 135 * (rows s + rows t) + 3 * s.resolution + 400 ≤ 1073741824
plan_fits s t h e =
    let rows_bound = rows_most s in
    let runs_bound = runs_most s in
    let rows_bound_here = rows_most t in
    let runs_bound_here = runs_most t in
    let sq = square s.resolution h in
    let cu = cube s.resolution h in
    let tq = square t.resolution (omega arith) in
    let tc = cube t.resolution (omega arith) in
    omega (arith, rows_bound, runs_bound, rows_bound_here, runs_bound_here, sq, cu, tq, tc, h)
