use Rattle.nanobot_c.proofs.Given.{between_given}
use Rattle.nanobot_c.proofs.Named.{holds_no_plan}
use Rattle.nanobot_c.proofs.planning.plan_between.Goals as goal

pub call-requires-clause-new_name : goal.call-requires-clause-new_name
call-requires-clause-new_name c = λ name named. holds_no_plan _ _ _ name named

pub returns : goal.returns
returns c = between_given _ _ _ _ _ _ _ _ _ c.side.ensures c.side-2.ensures c.if-not-has_model.ensures c.call.ensures
