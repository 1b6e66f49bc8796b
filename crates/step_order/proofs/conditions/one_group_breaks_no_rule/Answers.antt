use Rattle.nano_spec.specs.Act.{acts}
use Rattle.step_order.proofs.Faultless.{group_agree, group_faults}
use Rattle.step_order.proofs.Judgements.{unbroken_by}
use Rattle.step_order.proofs.conditions.one_group_breaks_no_rule.Goals as goal

pub returns : goal.returns
returns c = λ s commands step region full ready lengths group. unbroken_by s commands step ready lengths (group_faults s region full (acts s.bots commands) group) (group_agree s region full (acts s.bots commands) group)
