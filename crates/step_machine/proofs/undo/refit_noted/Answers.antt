use Rattle.std.proofs.Common.{arith, ap, length, ◌∙◌}
use Rattle.step_machine.proofs.Taking.{few_change}
use Rattle.step_machine.proofs.undo.refit_noted.Goals as goal

pub note-requires-clause-few : goal.note-requires-clause-few
note-requires-clause-few g c =
    let length_is = ap length (c.as_slice.ensures ∙ c.refit.ensures.items) in
    let few = few_change c.args.system.now c.args.commands.now c.args.step c.recall.ensures.ready c.requires.can.judged c.recall.ensures.whole in
    omega (arith, length_is, few)
