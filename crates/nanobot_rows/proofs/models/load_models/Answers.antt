use Rattle.plan_choice.proofs.Empty.{legal_where_empty}
use Rattle.nanobot_rows.proofs.models.load_models.Goals as goal

pub returns-in_ok-target-in-Named-Empty-clause-target : goal.returns-in_ok-target-in-Named-Empty-clause-target
returns-in_ok-target-in-Named-Empty-clause-target g c = legal_where_empty c.in_ok-target-in-Named-Empty.target c.resolution.result c.in_ok-target-in-Named-Empty.ensures.value

pub returns-in_ok-source-in-Empty-Named-clause-source : goal.returns-in_ok-source-in-Empty-Named-clause-source
returns-in_ok-source-in-Empty-Named-clause-source g c = legal_where_empty c.in_ok-source-in-Empty-Named.source c.resolution-in-Empty-Named.result c.in_ok-source-in-Empty-Named.ensures.value
