use Rattle.std.proofs.Common.{◌≡◌, ◌∷◌, [], List, length, take}
use Rattle.std.specs.Prelude.{All}
use Rattle.arrayvec.specs.ArrayVec.{array_vec_len}
use Rattle.nano_spec.specs.declared.commands.Command.{Command}
use Rattle.nano_spec.specs.Act.{acts}
use Rattle.nano_spec.specs.Group.{members}
use Rattle.system_state.specs.Turns.{AreTurns}
use Rattle.system_state.proofs.turns.list_lone_turns.Given as goal

abbrev pub invariant-loop-i : goal.invariant-loop-i
invariant-loop-i l = record {
  turns : (commands : List Command) → length commands ≡ length l.bots → All (λ a. members (acts l.bots commands) a ≡ a ∷ []) (acts l.bots commands) → AreTurns (acts l.bots commands) (take l.i (acts l.bots commands)) l.turns.items;
  len : array_vec_len l.turns ≡ l.i;
}
