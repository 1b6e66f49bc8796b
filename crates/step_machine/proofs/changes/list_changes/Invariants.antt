use Rattle.nano_spec.specs.Act.{acts}
use Rattle.nano_spec.specs.Group.{leaders}
use Rattle.step_machine.proofs.Turning.{IsListing}
use Rattle.step_machine.proofs.changes.list_changes.Given as goal

abbrev pub invariant-loop-turn : goal.invariant-loop-turn
invariant-loop-turn g l = IsListing l.fn.system.matrix l.fn.full (leaders (acts l.fn.system.bots l.commands)) l.turn-index l.fn.list l.list l.fn.steps l.steps
