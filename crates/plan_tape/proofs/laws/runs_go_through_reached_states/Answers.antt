use Rattle.std.proofs.Common.{[], refl}
use Rattle.nano_spec.specs.State.{opening}
use Rattle.plan_tape.specs.Reaches.{starts}
use Rattle.plan_tape.proofs.Reached.{accepted, decided, onward}
use Rattle.plan_tape.proofs.laws.runs_go_through_reached_states.Goals as goal

pub returns-clause-onward : goal.returns-clause-onward
returns-clause-onward c = onward

pub returns-clause-decided : goal.returns-clause-decided
returns-clause-decided c = λ source target profile commands v run. decided source target profile [] commands (opening source profile) 0 v (starts refl refl refl) run

pub returns-clause-accepted : goal.returns-clause-accepted
returns-clause-accepted c = λ source target profile commands energy steps. accepted source target profile energy steps commands
