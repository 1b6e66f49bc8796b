use Rattle.std.proofs.Common.{◌≡◌, ◌+◌, sym, ◌∙◌, ap, arith}
use Rattle.group_planner.specs.Rows.{is_row, one_if}
use Rattle.group_planner.proofs.Counts.{at_most_one, sum_below-more, sum_below-zero}
use Rattle.group_planner.proofs.count.layer_rows.Goals as goal
use Rattle.group_planner.proofs.count.layer_rows.Goals.{then-is_row, else-is_row}

pub loop-x-init : goal.loop-x-init
loop-x-init c = record { value = sym (sum_below-zero (λ x. one_if (is_row c.args.planes.now x c.args.y))); most = omega arith }

pub loop-x-preserved : goal.loop-x-preserved
loop-x-preserved c =
    let more = sum_below-more (λ x. one_if (is_row c.args.planes.now x c.args.y)) c.loop-x.x in
    let here : c.if-is_row.rows ≡ c.loop-x.rows + one_if (is_row c.args.planes.now c.loop-x.x c.args.y) = (elim c.if-is_row.branch [
      | then-is_row w ↦ (let one_if_is = ap one_if (sym c.is_row.ensures ∙ w.if-is_row.true) in omega (arith, one_if_is, w.rows-is))
      | else-is_row w ↦ (let one_if_is = ap one_if (sym c.is_row.ensures ∙ w.if-is_row.false) in omega (arith, one_if_is, w.rows-is))
    ]) in
    let one = at_most_one (is_row c.args.planes.now c.loop-x.x c.args.y) in
    let value = c.loop-x.invariant.value in
    record { value = omega (arith, here, more, value); most = let most = c.loop-x.invariant.most in omega (arith, here, one, most) }
