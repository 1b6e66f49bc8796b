use Rattle.support_forest.proofs.Each.{IsFillingEach}
use Rattle.support_forest.proofs.add.fill_each.Given as goal

abbrev pub invariant-loop-c : goal.invariant-loop-c
invariant-loop-c g l = IsFillingEach l.initial.cells l.cells l.new l.c-index l.rest.items l.initial.steps l.steps
