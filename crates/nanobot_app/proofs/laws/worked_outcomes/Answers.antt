use Rattle.nanobot_app.proofs.Examples as examples
use Rattle.nanobot_app.proofs.laws.worked_outcomes.Goals as goal

pub returns-clause-outcomes : goal.returns-clause-outcomes
returns-clause-outcomes c = examples.worked_outcomes

pub returns-clause-headlines : goal.returns-clause-headlines
returns-clause-headlines c = examples.worked_headlines
