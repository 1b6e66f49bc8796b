use Rattle.support_forest.proofs.Removing.{lists_all}
use Rattle.support_forest.proofs.remove.let_go.Goals as goal

pub returns : goal.returns
returns c = lists_all _ _ _ _ _ _ _ _ _ _ c.in_ok-let_go_toward.ensures c.in_ok-let_go_toward-2.ensures c.in_ok-let_go_toward-3.ensures c.in_ok-let_go_toward-4.ensures c.in_ok-let_go_toward-5.ensures c.in_ok-let_go_toward-6.ensures
