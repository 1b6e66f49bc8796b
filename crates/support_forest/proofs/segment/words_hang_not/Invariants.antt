use Rattle.std.proofs.Common.{◌≡◌, ◌+◌, ◌≤◌, true}
use Rattle.support_forest.specs.Segments.{WordsHangNot}
use Rattle.support_forest.proofs.segment.words_hang_not.Given as goal

abbrev pub invariant-loop-k : goal.invariant-loop-k
invariant-loop-k g l = (l.none ≡ true → WordsHangNot l.chunk l.from l.k l.toward) × (l.steps ≤ l.initial.steps + l.k)
