use Rattle.std.proofs.Common.{◌≡◌, ◌+◌, ◌≤◌, drop, take}
use Rattle.std.specs.Prelude.{sum_by}
use Rattle.nano_spec.specs.Act.{acts}
use Rattle.step_groups.specs.Judging.{judge_each, touches_of}
use Rattle.step_groups.specs.Outlines.{IsOutlineOf}
use Rattle.step_groups.specs.Steps.{acts_of_step, start_of_step}
use Rattle.step_groups.proofs.one_pass.judge_apart.Given as goal

abbrev pub invariant-loop-i : goal.invariant-loop-i
invariant-loop-i g l = record {
  value : judge_each (start_of_step l.fn.step) (acts_of_step l.fn.step) l.fn.step.number (acts (drop l.i l.fn.step.bots.now) (drop l.i l.fn.step.commands.now)) ≡ judge_each (start_of_step l.fn.step) (acts_of_step l.fn.step) l.fn.step.number (acts_of_step l.fn.step);
  touches : l.steps + sum_by (touches_of l.fn.step.planes.now) (acts (drop l.i l.fn.step.bots.now) (drop l.i l.fn.step.commands.now)) ≤ l.initial.steps + sum_by (touches_of l.fn.step.planes.now) (acts_of_step l.fn.step);
  outline : IsOutlineOf l.outline (acts (take l.i l.fn.step.bots.now) (take l.i l.fn.step.commands.now));
}
