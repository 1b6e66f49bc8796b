use Rattle.std.proofs.Common.{◌≡◌, refl, sym, ◌∙◌, ap, subst, arith, length}
use Rattle.nano_spec.specs.Matrix.{Matrix, is_full}
use Rattle.nano_spec.specs.Model.{volume}
use Rattle.step_machine.proofs.Edited.{changed_refitted, kept_refitted, may_change}
use Rattle.step_machine.proofs.support.refit_one.Goals as goal

pub change_cell-requires-clause-cell : goal.change_cell-requires-clause-cell
change_cell-requires-clause-cell g c =
    let whole = subst (λ (m : Matrix). length m.voxels ≡ volume m.resolution) (sym c.requires.edit.tied) c.matrix.ensures.whole.voxels in
    let found = c.full_at-was.ensures.value ∙ ap (λ (m : Matrix). is_full m c.args.at) c.matrix.ensures.value in
    may_change c.args.system.now c.args.d c.args.at c.args.full c.args.commands.now c.requires.edit.one c.requires.edit.command c.requires.edit.named c.requires.edit.within c.requires.judged.0 c.recall.ensures.ready c.requires.judged.1
    c.args.forest.now.matrix c.full_at-was.result c.requires.edit.tied whole found c.if-was-full.false

pub returns-then-was-full-clause-refitted : goal.returns-then-was-full-clause-refitted
returns-then-was-full-clause-refitted g c = λ before few.
    let whole = subst (λ (m : Matrix). length m.voxels ≡ volume m.resolution) (sym c.requires.edit.tied) c.matrix.ensures.whole.voxels in
    let found = c.full_at-was.ensures.value ∙ ap (λ (m : Matrix). is_full m c.args.at) c.matrix.ensures.value in
    kept_refitted c.args.system.now c.args.d c.args.at c.args.full c.args.commands.now c.requires.edit.one c.requires.edit.command c.requires.edit.named c.requires.edit.within c.requires.judged.0 c.recall.ensures.ready c.requires.judged.1
    c.args.forest.now.matrix c.full_at-was.result c.requires.edit.tied whole found c.args.forest.now before c.full_at-was.new.steps c.full_at-was.new.steps c.requires.edit.stands (omega (arith, few, c.full_at-was.ensures.touches))
    c.if-was-full.true refl refl

pub returns-clause-refitted : goal.returns-clause-refitted
returns-clause-refitted g c = λ before few.
    let whole = subst (λ (m : Matrix). length m.voxels ≡ volume m.resolution) (sym c.requires.edit.tied) c.matrix.ensures.whole.voxels in
    let found = c.full_at-was.ensures.value ∙ ap (λ (m : Matrix). is_full m c.args.at) c.matrix.ensures.value in
    changed_refitted c.args.system.now c.args.d c.args.at c.args.full c.args.commands.now c.requires.edit.one c.requires.edit.command c.requires.edit.named c.requires.edit.within c.requires.judged.0 c.recall.ensures.ready c.requires.judged.1
    c.args.forest.now.matrix c.full_at-was.result c.requires.edit.tied whole found c.change_cell.new.forest before c.full_at-was.new.steps c.change_cell.new.steps c.in_ok-change_cell.ensures.stands (omega (arith, few, c.full_at-was.ensures.touches))
    c.if-was-full.false c.in_ok-change_cell.ensures.value c.in_ok-change_cell.ensures.touches
