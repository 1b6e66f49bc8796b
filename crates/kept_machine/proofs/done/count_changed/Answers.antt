use Rattle.std.proofs.Common.{◌+◌, ◌∙◌, sym, ap, arith, length}
use Rattle.kept_machine.proofs.Changing.{changed_is, few_changed}
use Rattle.kept_machine.proofs.done.count_changed.Goals as goal

pub overflow_cast-result : goal.overflow_cast-result
overflow_cast-result c =
    let whole = c.recall.ensures.whole in
    let few = few_changed c.args.matrix.now c.args.undo.now c.requires (length c.as_slice.result.now) (length c.as_slice-2.result.now) whole.most (ap length c.as_slice.ensures) (ap length c.as_slice-2.ensures) in
    omega arith

pub returns : goal.returns
returns c =
    (λ i. length (c.as_slice.ensures i) + length (c.as_slice-2.ensures i))
    ∙ sym (changed_is c.args.matrix.now c.args.undo.now c.requires)
