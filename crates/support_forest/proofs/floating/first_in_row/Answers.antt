use Rattle.std.proofs.Common.{◌+◌, ◌*◌, arith}
use Rattle.support_forest.proofs.Searching.{row_found, row_goes_on}
use Rattle.support_forest.proofs.floating.first_in_row.Goals as goal

pub returns-in-Some-clause-first : goal.returns-in-Some-clause-first
returns-in-Some-clause-first g c = row_found c.args.cells.now c.args.start (c.loop-part.part * 8) c.min-count.result c.in-Some.k c.requires.begins (omega arith) c.loop-part.invariant.0 c.in-Some.ensures.first

pub loop-part-preserved : goal.loop-part-preserved
loop-part-preserved g c =
    let count_is = c.min-count.ensures in
    let resolution_is = c.resolution-side.ensures.value in
    let touches = c.first_in_part.ensures.touches in
    let before = c.loop-part.invariant.1 in
    (row_goes_on c.args.cells.now c.args.start (c.loop-part.part * 8) c.min-count.result ((c.loop-part.part + 1) * 8) c.requires.begins c.loop-part.invariant.0 c.in_default.ensures.first (λ k l within. omega arith), omega arith, omega arith)
