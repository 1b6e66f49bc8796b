use Rattle.std.proofs.Common.{◌≡◌, ◌+◌, ◌-◌, ◌≤◌, arith, length}
use Rattle.kept_machine.specs.Aiming.{became_right, became_wrong}
use Rattle.kept_machine.proofs.Aimed.{few_voxels, right_and_wrong}
use Rattle.kept_machine.proofs.aim.compare_changes.Given as given
use Rattle.kept_machine.proofs.aim.compare_changes.Goals as goal

few : (g : given.Over) (c : goal.After-count_full_in-voided_full g)
    → length c.as_slice-filled.result.now + length c.as_slice-voided.result.now ≤ 64000000
few g c = few_voxels c.args.matrix.now c.args.undo.now c.as_slice-filled.result.now c.as_slice-voided.result.now c.as_slice-filled.ensures c.as_slice-voided.ensures c.requires.changed c.recall.ensures.whole.most

are : (g : given.Over) (c : goal.After-count_full_in-voided_full g)
    → (c.count_full_in-filled_full.result + (length c.as_slice-voided.result.now - c.count_full_in-voided_full.result)
    ≡ became_right c.args.target.now c.args.undo.now)
    × (length c.as_slice-filled.result.now - c.count_full_in-filled_full.result + c.count_full_in-voided_full.result
    ≡ became_wrong c.args.target.now c.args.undo.now)
    × (became_right c.args.target.now c.args.undo.now + became_wrong c.args.target.now c.args.undo.now
    ≡ length c.as_slice-filled.result.now + length c.as_slice-voided.result.now)
are g c =
    right_and_wrong c.args.matrix.now c.args.undo.now c.as_slice-filled.result.now c.as_slice-voided.result.now c.as_slice-filled.ensures c.as_slice-voided.ensures
    c.args.target.now c.count_full_in-filled_full.result c.count_full_in-voided_full.result c.count_full_in-filled_full.ensures c.count_full_in-voided_full.ensures

pub count_full_in-filled_full-requires-clause-few : goal.count_full_in-filled_full-requires-clause-few
count_full_in-filled_full-requires-clause-few g c = omega (arith, few_voxels c.args.matrix.now c.args.undo.now c.as_slice-filled.result.now c.as_slice-voided.result.now c.as_slice-filled.ensures c.as_slice-voided.ensures c.requires.changed c.recall.ensures.whole.most)

pub count_full_in-voided_full-requires-clause-few : goal.count_full_in-voided_full-requires-clause-few
count_full_in-voided_full-requires-clause-few g c = omega (arith, few_voxels c.args.matrix.now c.args.undo.now c.as_slice-filled.result.now c.as_slice-voided.result.now c.as_slice-filled.ensures c.as_slice-voided.ensures c.requires.changed c.recall.ensures.whole.most)

pub overflow_cast-result : goal.overflow_cast-result
overflow_cast-result g c = omega (arith, few g c)

pub overflow_add-result : goal.overflow_add-result
overflow_add-result g c = omega (arith, few g c, are g c)

pub overflow_cast-result-2 : goal.overflow_cast-result-2
overflow_cast-result-2 g c = omega (arith, few g c)

pub overflow_add-result-2 : goal.overflow_add-result-2
overflow_add-result-2 g c = omega (arith, few g c, are g c)

pub returns-clause-right : goal.returns-clause-right
returns-clause-right g c = (are g c).0

pub returns-clause-wrong : goal.returns-clause-wrong
returns-clause-wrong g c = (are g c).1

pub returns-clause-few : goal.returns-clause-few
returns-clause-few g c = omega (arith, few g c, are g c)
