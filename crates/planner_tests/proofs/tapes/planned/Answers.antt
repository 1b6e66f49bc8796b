use Rattle.std.proofs.Common.{sym, ◌∙◌, ap}
use Rattle.nano_spec.specs.State.{opening}
use Rattle.plan_tape.specs.Progress.{state_of}
use Rattle.planner_tests.proofs.tapes.planned.Goals as goal

pub go_out-requires : goal.go_out-requires
go_out-requires g c = c.opening-system.ensures ∙ ((λ i. opening (c.in_ok-copy.ensures.value i) (c.full.ensures i)) ∙ sym (ap state_of c.in_ok-tape.ensures))
