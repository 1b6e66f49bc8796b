use Rattle.std.proofs.Common.{◌≤◌, ℕ, subst, sym, arith, ◌∙◌}
use Rattle.low_planner.specs.Sweep.{AreAllSwept, IsPartStart, IsStartInRow, IsSweptRow, IsWithinReach}
use Rattle.low_planner.proofs.Rows.{found_none, found_some, reach_on, row_most, row_up, rows_fall, start_is, swept_past}
use Rattle.low_planner.proofs.sweep.Sweep.start.Goals as goal

pub loop-from-smaller : goal.loop-from-smaller
loop-from-smaller c = rows_fall c.resolution-resolution.result c.loop-from.from.y c.loop-from.from.x c.next_row-from.result.y c.next_row-from.result.x c.loop-from-test.true c.loop-from.invariant.x c.next_row-from.ensures.forth

pub loop-from-preserved : goal.loop-from-preserved
loop-from-preserved c =
    let target = c.args.target.now in
    let left = c.args.self.now.remaining in
    let resolution_result = c.resolution-resolution.result in
    let from = c.loop-from.from in
    let next = c.next_row-from.result in
    let row = c.next_row-from.ensures in
    let inv = c.loop-from.invariant in
    let up : from.y ≤ next.y = row_up resolution_result from next row in
    let none : IsSweptRow target left from target.resolution = found_none c.start_in_row-found.result (IsSweptRow target left from target.resolution) (IsStartInRow target left from) (sym c.is_some.ensures ∙ c.if-is_some.false) c.start_in_row-found.ensures in
    record {
      resolution = inv.resolution;
      x = row.x;
      y = row_most resolution_result from next row c.loop-from-test.true;
      z = (let row_along_z = row.z in let row_along_x = row.x in omega arith);
      up = (let inv_up = inv.up in omega arith);
      near = reach_on resolution_result c.args.self.now.at from next inv.near row.near;
      swept = row.swept target left (sym inv.resolution) (c.requires.same ∙ sym inv.resolution) inv.swept (subst (IsSweptRow target left from) (sym inv.resolution) none);
    }

pub returns-then-is_some : goal.returns-then-is_some
returns-then-is_some c =
    let target = c.args.target.now in
    let self = c.args.self.now in
    let from = c.loop-from.from in
    let inv = c.loop-from.invariant in
    let near : IsWithinReach target.resolution self.at from = subst (λ (r : ℕ). IsWithinReach r self.at from) inv.resolution inv.near in
    found_some c.start_in_row-found.result _ (IsStartInRow target self.remaining from) (AreAllSwept target self.remaining) (IsPartStart target self) (sym c.is_some.ensures ∙ c.if-is_some.true) (λ at h. start_is target self from at near inv.up inv.swept h) c.start_in_row-found.ensures

pub returns : goal.returns
returns c =
    let inv = c.loop-from.invariant in
    let same = inv.resolution in
    swept_past c.args.target.now c.args.self.now.remaining c.loop-from.from c.requires.same (omega (arith, same, c.loop-from-test.false)) inv.swept
