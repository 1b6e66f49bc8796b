use Rattle.std.proofs.Common.{sym, subst}
use Rattle.nano_spec.specs.State.{IsWellFormed, State, opening}
use Rattle.step_machine.proofs.Opening.{first_stands}
use Rattle.step_machine.proofs.machine.Machine.start.Goals as goal

pub returns-clause-well_formed : goal.returns-clause-well_formed
returns-clause-well_formed g c = λ void.
    subst (λ (s : State). IsWellFormed s) (sym c.opening-system.ensures)
    (c.ready_and_well_formed.ensures.well_formed (opening c.args.source c.args.profile)
    (c.opening_is_ready.ensures c.args.source c.args.profile c.recall.ensures.whole.some c.recall.ensures.whole.voxels)
    (λ _. c.requires.grounded)
    (first_stands c.args.source c.args.profile void))
