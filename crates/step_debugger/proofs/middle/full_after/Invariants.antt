use Rattle.nano_spec.specs.Act.{acts}
use Rattle.step_debugger.proofs.Between.{AreKeptBy}
use Rattle.step_debugger.proofs.middle.full_after.Given as goal

abbrev pub invariant-loop-i : goal.invariant-loop-i
invariant-loop-i g l = AreKeptBy l.begun l.c (acts l.machine.state.bots l.next) l.i
