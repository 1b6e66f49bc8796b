use Rattle.std.proofs.Common.{◌≡◌, ℕ, ◌<◌, get_or}
use Rattle.system_state.specs.declared.turns.Turn.{Turn}
use Rattle.system_state.proofs.turns.turn_of.Given as goal

abbrev pub invariant-loop-turn : goal.invariant-loop-turn
invariant-loop-turn l = (k : ℕ) (d : Turn) → k < l.turn-index → (get_or l.turns k d).leader ≡ l.leader → ⊥
