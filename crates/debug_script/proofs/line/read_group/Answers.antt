use Rattle.std.proofs.Common.{arith}
use Rattle.debug_script.specs.Script.{line_parts}
use Rattle.debug_script.proofs.Forms.{group_in_range, group_too_high, group_too_low}
use Rattle.debug_script.proofs.line.read_group.Goals as goal

pub returns-then-leader-lt1 : goal.returns-then-leader-lt1
returns-then-leader-lt1 c = λ r. let some_ensured = c.in-Some.ensures {u = tt} in group_too_low r c.args.number (line_parts c.args.rest.now) c.in-Some.leader some_ensured.0 some_ensured.1 c.if-leader-lt1.true

pub returns-then-leader-gt40 : goal.returns-then-leader-gt40
returns-then-leader-gt40 c = λ r. let some_ensured = c.in-Some.ensures {u = tt} in group_too_high r c.args.number (line_parts c.args.rest.now) c.in-Some.leader some_ensured.0 some_ensured.1 c.if-leader-gt40.true

pub returns : goal.returns
returns c = λ r. let some_ensured = c.in-Some.ensures {u = tt} in let low = c.if-leader-lt1.false in let high = c.if-leader-gt40.false in group_in_range r c.args.number (line_parts c.args.rest.now) c.in-Some.leader some_ensured.0 some_ensured.1 (omega (arith, low)) (omega (arith, high))
