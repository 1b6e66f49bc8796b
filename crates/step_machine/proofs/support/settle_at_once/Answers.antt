use Rattle.std.proofs.Common.{◌≡◌, refl, sym, ◌∙◌, ap, subst, arith, length}
use Rattle.std.specs.Prelude.{None}
use Rattle.nano_spec.specs.Grounded.{FirstUngrounded}
use Rattle.nano_spec.specs.Matrix.{Matrix, is_full}
use Rattle.nano_spec.specs.Model.{volume}
use Rattle.step_machine.proofs.Edited.{changed_refitted, kept_refitted, may_change, settled_by}
use Rattle.step_machine.proofs.support.settle_at_once.Goals as goal

pub change_at_once-requires-clause-cell : goal.change_at_once-requires-clause-cell
change_at_once-requires-clause-cell g c =
    let whole = subst (λ (m : Matrix). length m.voxels ≡ volume m.resolution) (sym c.requires.edit.tied) c.matrix.ensures.whole.voxels in
    let found = c.full_at_bit-was.ensures.value ∙ ap (λ (m : Matrix). is_full m c.args.at) c.matrix.ensures.value in
    may_change c.args.system.now c.args.d c.args.at c.args.full c.args.commands.now c.requires.edit.one c.requires.edit.command c.requires.edit.named c.requires.edit.within c.args.step c.recall.ensures.ready c.requires.judged
    c.args.forest.now.matrix c.full_at_bit-was.result c.requires.edit.tied whole found c.if-was-full.false

pub returns-then-was-full-clause-settled : goal.returns-then-was-full-clause-settled
returns-then-was-full-clause-settled g c =
    let whole = subst (λ (m : Matrix). length m.voxels ≡ volume m.resolution) (sym c.requires.edit.tied) c.matrix.ensures.whole.voxels in
    let found = c.full_at_bit-was.ensures.value ∙ ap (λ (m : Matrix). is_full m c.args.at) c.matrix.ensures.value in
    settled_by c.args.system.now c.args.d c.args.at c.args.full c.args.commands.now c.requires.edit.one c.requires.edit.command c.requires.edit.named c.requires.edit.within c.args.step c.requires.judged c.args.forest.now c.args.steps.now c.full_at_bit-was.new.steps
    (kept_refitted c.args.system.now c.args.d c.args.at c.args.full c.args.commands.now c.requires.edit.one c.requires.edit.command c.requires.edit.named c.requires.edit.within c.args.step c.recall.ensures.ready c.requires.judged
    c.args.forest.now.matrix c.full_at_bit-was.result c.requires.edit.tied whole found c.args.forest.now c.args.steps.now c.full_at_bit-was.new.steps c.full_at_bit-was.new.steps c.requires.edit.stands (omega (arith, c.full_at_bit-was.ensures.touches))
    c.if-was-full.true refl refl)
    (λ l. subst (λ (m : Matrix). FirstUngrounded m None) (sym c.requires.edit.tied) (c.requires.held l))

pub returns-then-change_at_once-clause-settled : goal.returns-then-change_at_once-clause-settled
returns-then-change_at_once-clause-settled g c =
    let whole = subst (λ (m : Matrix). length m.voxels ≡ volume m.resolution) (sym c.requires.edit.tied) c.matrix.ensures.whole.voxels in
    let found = c.full_at_bit-was.ensures.value ∙ ap (λ (m : Matrix). is_full m c.args.at) c.matrix.ensures.value in
    settled_by c.args.system.now c.args.d c.args.at c.args.full c.args.commands.now c.requires.edit.one c.requires.edit.command c.requires.edit.named c.requires.edit.within c.args.step c.requires.judged c.change_at_once.new.forest c.args.steps.now c.change_at_once.new.steps
    (changed_refitted c.args.system.now c.args.d c.args.at c.args.full c.args.commands.now c.requires.edit.one c.requires.edit.command c.requires.edit.named c.requires.edit.within c.args.step c.recall.ensures.ready c.requires.judged
    c.args.forest.now.matrix c.full_at_bit-was.result c.requires.edit.tied whole found c.change_at_once.new.forest c.args.steps.now c.full_at_bit-was.new.steps c.change_at_once.new.steps c.change_at_once.ensures.stands (omega (arith, c.full_at_bit-was.ensures.touches))
    c.if-was-full.false (c.change_at_once.ensures.value c.if-change_at_once.true) (λ first last f l. omega (arith, c.change_at_once.ensures.touches)))
    (λ l. c.change_at_once.ensures.held c.if-change_at_once.true (subst (λ (m : Matrix). FirstUngrounded m None) (sym c.requires.edit.tied) (c.requires.held l)))
