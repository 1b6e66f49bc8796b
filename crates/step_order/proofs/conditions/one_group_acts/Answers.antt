use Rattle.std.proofs.Common.{◌∙◌}
use Rattle.nano_spec.specs.Act.{acts}
use Rattle.step_order.proofs.Acted.{group_bots, group_harmonics, group_matrix}
use Rattle.step_order.proofs.Facts.{up}
use Rattle.step_order.proofs.Judgements.{all_bots}
use Rattle.step_order.proofs.conditions.one_group_acts.Goals as goal

pub returns-clause-matrix : goal.returns-clause-matrix
returns-clause-matrix c = λ s commands region full group. group_matrix s region full (acts s.bots commands) group

pub returns-clause-bots : goal.returns-clause-bots
returns-clause-bots c = λ s commands region full ready lengths group.
    let same = all_bots s.bots commands lengths in
    group_bots s region full (acts s.bots commands) group (up s (acts s.bots commands) ready same) ∙ same

pub returns-clause-harmonics : goal.returns-clause-harmonics
returns-clause-harmonics c = λ s commands region full group. group_harmonics s region full (acts s.bots commands) group
