use Rattle.plan_tape.proofs.Many.{has_at_most}
use Rattle.plan_tape.proofs.laws.seeds_bound_the_bots.Goals as goal

pub returns : goal.returns
returns c = has_at_most
