use Rattle.step_order.proofs.Turns.{apart_are}
use Rattle.step_order.proofs.laws.groups_are_apart.Goals as goal

pub returns : goal.returns
returns c = apart_are
