use Rattle.energy_sum.proofs.Bounds.{rises, falls}
use Rattle.energy_sum.proofs.laws.a_step_changes_the_energy_by_little.Goals as goal

pub returns-clause-rises : goal.returns-clause-rises
returns-clause-rises c = rises

pub returns-clause-falls : goal.returns-clause-falls
returns-clause-falls c = falls
