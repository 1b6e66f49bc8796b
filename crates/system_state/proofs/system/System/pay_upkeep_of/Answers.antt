use Rattle.system_state.proofs.Upkeep.{space_upkeep_most}
use Rattle.system_state.proofs.system.System.pay_upkeep_of.Goals as goal

pub upkeep_at-upkeep-requires-clause-space : goal.upkeep_at-upkeep-requires-clause-space
upkeep_at-upkeep-requires-clause-space c = space_upkeep_most c.self.inside.matrix.resolution c.self.inside.harmonics c.self.inside.space c.recall.ensures.whole.most c.self.invariant.1
