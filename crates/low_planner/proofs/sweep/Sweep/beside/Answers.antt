use Rattle.std.proofs.Common.{◌+◌, ◌-◌, ◌<◌, ◌≡◌, refl, sym, arith, false}
use Rattle.nano_spec.specs.Matrix.{is_full}
use Rattle.low_planner.proofs.Beside.{beside_by, none_beside}
use Rattle.low_planner.proofs.sweep.Sweep.beside.Goals as goal
use Rattle.low_planner.proofs.sweep.Sweep.beside.Goals.{else-z-gt0-via-then-z-gt0+else-is_left-2, else-z-gt0-via-else-z-gt0, else-x-gt0-via-then-x-gt0+else-is_left-4, else-x-gt0-via-else-x-gt0}
use Rattle.vox_geom.specs.Point.{coord}

pub returns-then-is_left : goal.returns-then-is_left
returns-then-is_left c = (beside_by c.args.c (coord c.args.c.x c.args.c.y (c.args.c.z + 1)) refl (omega arith), sym c.if-is_left.ensures)

pub returns-then-is_left-2 : goal.returns-then-is_left-2
returns-then-is_left-2 c = (let some = c.if-z-gt0.true in (beside_by c.args.c (coord c.args.c.x c.args.c.y (c.args.c.z - 1)) refl (omega arith), sym c.if-is_left-2.ensures))

pub returns-then-is_left-3 : goal.returns-then-is_left-3
returns-then-is_left-3 c = (beside_by c.args.c (coord (c.args.c.x + 1) c.args.c.y c.args.c.z) refl (omega arith), sym c.if-is_left-3.ensures)

pub returns-then-is_left-4 : goal.returns-then-is_left-4
returns-then-is_left-4 c = (let some = c.if-x-gt0.true in (beside_by c.args.c (coord (c.args.c.x - 1) c.args.c.y c.args.c.z) refl (omega arith), sym c.if-is_left-4.ensures))

pub returns : goal.returns
returns c =
    let remaining = c.args.self.now.remaining in
    let at = c.args.c in
    none_beside remaining at (sym c.if-is_left.ensures)
    (λ (l : 0 < at.z). elim c.else-z-gt0.branch as (λ _. is_full remaining (coord at.x at.y (at.z - 1)) ≡ false) [ else-z-gt0-via-then-z-gt0+else-is_left-2 w ↦ sym w.if-is_left-2.ensures | else-z-gt0-via-else-z-gt0 w ↦ absurd (omega (arith, w.if-z-gt0.false)) ])
    (sym c.if-is_left-3.ensures)
    (λ (l : 0 < at.x). elim c.else-x-gt0.branch as (λ _. is_full remaining (coord (at.x - 1) at.y at.z) ≡ false) [ else-x-gt0-via-then-x-gt0+else-is_left-4 w ↦ sym w.if-is_left-4.ensures | else-x-gt0-via-else-x-gt0 w ↦ absurd (omega (arith, w.if-x-gt0.false)) ])
