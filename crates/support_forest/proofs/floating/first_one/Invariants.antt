use Rattle.std.proofs.Common.{◌+◌, ◌≤◌}
use Rattle.support_forest.specs.Floating.{NoneIsOne, words_from}
use Rattle.support_forest.proofs.floating.first_one.Given as goal

abbrev pub invariant-loop-k : goal.invariant-loop-k
invariant-loop-k g l = NoneIsOne (words_from l.chunk l.from) l.k × (l.steps ≤ l.initial.steps + l.k)
