use Rattle.std.proofs.Common.{sym, ◌∙◌, ap, arith, subst, true}
use Rattle.nano_spec.specs.Matrix.{Matrix}
use Rattle.nano_spec.specs.Work.{Levels}
use Rattle.support_forest.specs.ForestView.{MayAdd}
use Rattle.system_state.specs.Painting.{with_cells}
use Rattle.step_machine.proofs.Taking.{added_is, removed_is}
use Rattle.step_machine.proofs.Weighing.{levels_of_all}
use Rattle.step_machine.proofs.support.refit_back.Goals as goal

pub add-requires-clause-cells : goal.add-requires-clause-cells
add-requires-clause-cells g c =
    subst (λ (m : Matrix). MayAdd m c.args.voided.now) (sym (removed_is c.args.forest.now.matrix c.remove.new.forest.matrix c.args.filled.now c.in_ok-remove.ensures.value)) c.requires.voided

pub returns-clause-value : goal.returns-clause-value
returns-clause-value g c =
    added_is c.remove.new.forest.matrix c.add.new.forest.matrix c.args.voided.now c.in_ok-add.ensures.value
    ∙ ap (λ (m : Matrix). with_cells m c.args.voided.now true) (removed_is c.args.forest.now.matrix c.remove.new.forest.matrix c.args.filled.now c.in_ok-remove.ensures.value)

pub returns-clause-touches : goal.returns-clause-touches
returns-clause-touches g c =
    let without = removed_is c.args.forest.now.matrix c.remove.new.forest.matrix c.args.filled.now c.in_ok-remove.ensures.value in
    let back = added_is c.remove.new.forest.matrix c.add.new.forest.matrix c.args.voided.now c.in_ok-add.ensures.value ∙ ap (λ (n : Matrix). with_cells n c.args.voided.now true) without in
    let first = levels_of_all c.args.forest.now.matrix in
    let middle = levels_of_all c.remove.new.forest.matrix in
    let last = levels_of_all c.add.new.forest.matrix in
    let lost = c.in_ok-remove.ensures.touches first.0 middle.0 first.1 middle.1 in
    let won = c.in_ok-add.ensures.touches middle.0 last.0 middle.1 last.1 in
    (record { first = first.0; middle = middle.0; last = last.0; first_are = first.1; middle_are = subst (λ (n : Matrix). Levels n middle.0) without middle.1; last_are = subst (λ (n : Matrix). Levels n last.0) back last.1 }, omega (arith, lost, won))
