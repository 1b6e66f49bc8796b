use Rattle.nano_spec.proofs.Whole.{model_whole}
use Rattle.nano_spec.proofs.laws.a_model_is_whole.Goals as goal

pub returns-clause-some : goal.returns-clause-some
returns-clause-some c = λ bytes m h. (model_whole bytes m h).some

pub returns-clause-whole : goal.returns-clause-whole
returns-clause-whole c = λ bytes m h. (model_whole bytes m h).whole

pub returns-clause-most : goal.returns-clause-most
returns-clause-most c = λ bytes m h. (model_whole bytes m h).most
