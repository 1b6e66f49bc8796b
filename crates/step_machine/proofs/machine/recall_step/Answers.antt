use Rattle.step_machine.proofs.machine.recall_step.Goals as goal

pub returns-clause-well_formed : goal.returns-clause-well_formed
returns-clause-well_formed c = λ t step formed next. c.stays_well_formed.ensures.well_formed c.args.system.now t c.args.commands.now step c.recall_all.ensures formed c.recall.ensures.ready next
