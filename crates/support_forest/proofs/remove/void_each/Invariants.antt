use Rattle.support_forest.specs.Segments.{IsVoidingEach}
use Rattle.support_forest.proofs.remove.void_each.Given as goal

abbrev pub invariant-loop-left : goal.invariant-loop-left
invariant-loop-left g l = IsVoidingEach l.fn.cells l.cells l.gone l.left l.rest.items l.fn.steps l.steps

abbrev pub decreases-loop-left : goal.decreases-loop-left
decreases-loop-left g l = l.left
