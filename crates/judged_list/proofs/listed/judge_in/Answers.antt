use Rattle.nano_spec.proofs.EmptyModel.{empty_is_grounded}
use Rattle.judged_list.proofs.listed.judge_in.Goals as goal

pub judge-requires-clause-grounded : goal.judge-requires-clause-grounded
judge-requires-clause-grounded g c = empty_is_grounded c.in_ok-source.source c.args.r (c.in_ok-source.ensures {u = tt}).value
