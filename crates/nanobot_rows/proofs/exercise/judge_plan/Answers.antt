use Rattle.nano_spec.proofs.Opening.{legal_is}
use Rattle.plan_choice.proofs.Empty.{legal_where_empty}
use Rattle.nanobot_rows.proofs.exercise.judge_plan.Goals as goal

pub judge-requires-clause-grounded : goal.judge-requires-clause-grounded
judge-requires-clause-grounded g c = (legal_is c.in_ok-nothing.nothing (legal_where_empty c.in_ok-nothing.nothing c.resolution.result (c.in_ok-nothing.ensures {u = tt}).value)).1
