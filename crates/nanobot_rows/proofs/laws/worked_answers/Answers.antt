use Rattle.nanobot_rows.proofs.Others.{worked_answers, worked_facts, worked_models, worked_touching}
use Rattle.nanobot_rows.proofs.laws.worked_answers.Goals as goal

pub returns-clause-answers : goal.returns-clause-answers
returns-clause-answers c = worked_answers

pub returns-clause-facts : goal.returns-clause-facts
returns-clause-facts c = worked_facts

pub returns-clause-models : goal.returns-clause-models
returns-clause-models c = worked_models

pub returns-clause-touching : goal.returns-clause-touching
returns-clause-touching c = worked_touching
