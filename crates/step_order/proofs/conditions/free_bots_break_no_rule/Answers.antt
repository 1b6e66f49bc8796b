use Rattle.nano_spec.specs.Act.{acts}
use Rattle.step_order.proofs.Faultless.{free_agree, free_faults}
use Rattle.step_order.proofs.Judgements.{unbroken_by}
use Rattle.step_order.proofs.conditions.free_bots_break_no_rule.Goals as goal

pub returns : goal.returns
returns c = λ s commands step ready lengths free. unbroken_by s commands step ready lengths (free_faults s (acts s.bots commands) free) (free_agree s (acts s.bots commands) free)
