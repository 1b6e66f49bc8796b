use Rattle.low_planner.specs.Sweep.{IsSweep, sweep_weight}
use Rattle.low_planner.proofs.survey.finish.Given as goal

abbrev pub invariant-loop-visit : goal.invariant-loop-visit
invariant-loop-visit l = IsSweep l.target l.sweep

abbrev pub decreases-loop-visit : goal.decreases-loop-visit
decreases-loop-visit l = sweep_weight l.sweep
