use Rattle.step_tests.proofs.Empty.{made_is_grounded}
use Rattle.step_tests.proofs.common.empty.Goals as goal

pub returns-clause-grounded : goal.returns-clause-grounded
returns-clause-grounded c = made_is_grounded c.args.r c.empty.result c.empty.ensures.value
