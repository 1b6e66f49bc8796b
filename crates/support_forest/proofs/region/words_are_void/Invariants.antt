use Rattle.std.proofs.Common.{◌≡◌, ℕ, ◌+◌, ◌<◌, ◌≤◌, get_or, true}
use Rattle.support_forest.proofs.region.words_are_void.Given as goal

abbrev pub invariant-loop-k : goal.invariant-loop-k
invariant-loop-k g l = (l.void ≡ true → (j : ℕ) → j < l.k → get_or l.chunk (l.from + j) 0 ≡ 0) × (l.steps ≤ l.initial.steps + l.k)
