use Rattle.std.proofs.Common.{arith}
use Rattle.kept_machine.proofs.Aimed.{counted_after}
use Rattle.kept_machine.proofs.aim.count_step.Goals as goal

pub overflow_add-aim : goal.overflow_add-aim
overflow_add-aim g c =
    let counted = counted_after c.args.matrix.now c.args.undo.now c.requires.changed c.recall.ensures.whole.most c.args.aim.now c.in-Some.aim c.in-Some.is c.compare_changes-changes.result.right c.compare_changes-changes.result.wrong
    c.compare_changes-changes.ensures.right c.compare_changes-changes.ensures.wrong c.compare_changes-changes.ensures.few c.requires.before in
    omega (arith, counted.0)

pub overflow_sub-aim : goal.overflow_sub-aim
overflow_sub-aim g c =
    (counted_after c.args.matrix.now c.args.undo.now c.requires.changed c.recall.ensures.whole.most c.args.aim.now c.in-Some.aim c.in-Some.is c.compare_changes-changes.result.right c.compare_changes-changes.result.wrong
    c.compare_changes-changes.ensures.right c.compare_changes-changes.ensures.wrong c.compare_changes-changes.ensures.few c.requires.before).1

pub returns-in-Some-clause-after : goal.returns-in-Some-clause-after
returns-in-Some-clause-after g c =
    let counted = counted_after c.args.matrix.now c.args.undo.now c.requires.changed c.recall.ensures.whole.most c.args.aim.now c.in-Some.aim c.in-Some.is c.compare_changes-changes.result.right c.compare_changes-changes.result.wrong
    c.compare_changes-changes.ensures.right c.compare_changes-changes.ensures.wrong c.compare_changes-changes.ensures.few c.requires.before in
    (counted.2, counted.3)
