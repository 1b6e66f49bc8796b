use Rattle.std.proofs.Common.{refl}
use Rattle.nano_spec.specs.Step.{after}
use Rattle.step_machine.proofs.OnlyFloating.{least_floats}
use Rattle.step_machine.proofs.Restoring.{restored_by}
use Rattle.step_machine.proofs.Taking.{gain_noted, lose_noted, noted_back, noted_touches}
use Rattle.step_machine.proofs.undo.settle_noted.Goals as goal

pub refit_back-requires-clause-filled : goal.refit_back-requires-clause-filled
refit_back-requires-clause-filled g c =
    lose_noted c.args.system.now c.args.commands.now c.args.step c.recall.ensures.ready c.requires.can.judged (after c.args.system.now c.args.commands.now) c.in_ok-undo.undo refl c.in_ok-undo.ensures.note
    c.refit_noted.new.forest.matrix c.in_ok-undo.ensures.refitted.matrix c.as_slice.result.now c.as_slice.ensures

pub refit_back-requires-clause-voided : goal.refit_back-requires-clause-voided
refit_back-requires-clause-voided g c =
    gain_noted c.args.system.now c.args.commands.now c.args.step c.recall.ensures.ready c.requires.can.judged (after c.args.system.now c.args.commands.now) c.in_ok-undo.undo refl c.in_ok-undo.ensures.note
    c.refit_noted.new.forest.matrix c.in_ok-undo.ensures.refitted.matrix c.as_slice.result.now c.as_slice-in-Err.result.now c.as_slice.ensures c.as_slice-in-Err.ensures

pub returns-in-Ok-clause-settled : goal.returns-in-Ok-clause-settled
returns-in-Ok-clause-settled g c = c.in-Ok.ensures.settled c.args.steps.now c.in_ok-undo.ensures.refitted.touches

pub returns-in_ok-refit_back-in-Err-clause-restored : goal.returns-in_ok-refit_back-in-Err-clause-restored
returns-in_ok-refit_back-in-Err-clause-restored g c =
    restored_by c.args.system.now c.args.commands.now c.args.step c.in-Err.fault c.refit_back.new.forest c.args.steps.now c.settle_refitted.new.steps c.refit_back.new.steps
    (c.in-Err.ensures.unsettled c.args.steps.now c.in_ok-undo.ensures.refitted.touches)
    (noted_back c.args.system.now c.args.commands.now c.args.step c.recall.ensures.ready c.requires.can.judged (after c.args.system.now c.args.commands.now) c.in_ok-undo.undo refl c.in_ok-undo.ensures.note
    c.refit_noted.new.forest.matrix c.refit_back.new.forest.matrix c.in_ok-undo.ensures.refitted.matrix c.as_slice.result.now c.as_slice-in-Err.result.now c.as_slice.ensures c.as_slice-in-Err.ensures c.in_ok-refit_back-in-Err.ensures.value)
    c.in_ok-refit_back-in-Err.ensures.stands
    (noted_touches c.args.system.now c.args.commands.now c.args.step c.recall.ensures.ready c.requires.can.judged (after c.args.system.now c.args.commands.now) c.in_ok-undo.undo refl c.in_ok-undo.ensures.note
    c.refit_noted.new.forest.matrix c.in_ok-undo.ensures.refitted.matrix c.as_slice.result.now c.as_slice-in-Err.result.now c.settle_refitted.new.steps c.refit_back.new.steps c.as_slice.ensures c.as_slice-in-Err.ensures c.in_ok-refit_back-in-Err.ensures.touches)

pub settle_refitted-requires-clause-least : goal.settle_refitted-requires-clause-least
settle_refitted-requires-clause-least g c =
    least_floats c.args.system.now c.args.commands.now c.args.step c.recall.ensures.ready c.requires.can.judged c.in_ok-undo.undo c.in_ok-undo.ensures.note
    c.args.forest.now.matrix c.refit_noted.new.forest.matrix c.requires.can.prepared.tied c.in_ok-undo.ensures.refitted.matrix
    c.floating-floating.result c.floating-floating.ensures.none c.only_float-least.result c.only_float-least.ensures.filled c.only_float-least.ensures.voided c.only_float-least.ensures.floating
