use Rattle.nanobot_app.proofs.Numbers.{cost_apart, run_is_small}
use Rattle.nanobot_app.proofs.laws.costs_are_told_apart.Goals as goal

pub returns-clause-small : goal.returns-clause-small
returns-clause-small c = run_is_small (record {
  rises = c.a_step_changes_the_energy_by_little.ensures.rises;
  falls = c.a_step_changes_the_energy_by_little.ensures.falls;
  few = λ source profile commands some most whole. c.seeds_bound_the_bots.ensures source profile commands (record { some = some; most = most; voxels = whole });
  some = c.a_model_is_whole.ensures.some;
  most = c.a_model_is_whole.ensures.most;
  whole = c.a_model_is_whole.ensures.whole;
})

pub returns-clause-apart : goal.returns-clause-apart
returns-clause-apart c = cost_apart
