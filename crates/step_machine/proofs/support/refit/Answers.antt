use Rattle.std.proofs.Common.{◌∙◌, true, false}
use Rattle.step_machine.specs.Edits.{edits_of}
use Rattle.step_machine.proofs.Refitting.{back_of, front_of}
use Rattle.step_machine.proofs.support.refit.Goals as goal

pub refit_cells-requires-clause-removed : goal.refit_cells-requires-clause-removed
refit_cells-requires-clause-removed g c = front_of (edits_of c.args.system.now c.args.commands.now true) (edits_of c.args.system.now c.args.commands.now false) c.as_slice.result.now c.split_at.result.0.now c.list_edits-voided.result (c.as_slice.ensures ∙ c.list_edits-voided.ensures.items) c.list_edits-voided.ensures.voided c.split_at.ensures.front

pub refit_cells-requires-clause-added : goal.refit_cells-requires-clause-added
refit_cells-requires-clause-added g c = back_of (edits_of c.args.system.now c.args.commands.now true) (edits_of c.args.system.now c.args.commands.now false) c.as_slice.result.now c.split_at.result.1.now c.list_edits-voided.result (c.as_slice.ensures ∙ c.list_edits-voided.ensures.items) c.list_edits-voided.ensures.voided c.split_at.ensures.back

pub returns-clause-refitted : goal.returns-clause-refitted
returns-clause-refitted g c = c.in_ok-refit_cells.ensures.refitted c.args.steps.now c.list_edits-voided.ensures.touches
