use Rattle.std.proofs.Common.{◌≡◌, ◌≤◌, filter, length, take, List}
use Rattle.arrayvec.specs.ArrayVec.{array_vec_len}
use Rattle.nano_spec.specs.declared.commands.Command.{Command}
use Rattle.nano_spec.specs.Act.{acts}
use Rattle.nano_spec.specs.Group.{is_leader}
use Rattle.step_groups.specs.Numbers.{AreNumbers}
use Rattle.system_state.specs.Turns.{AreTurns}
use Rattle.system_state.proofs.turns.list_turns.Given as goal

abbrev pub invariant-loop-i : goal.invariant-loop-i
invariant-loop-i l = record {
  turns : (commands : List Command) → length commands ≡ length l.bots → AreNumbers (acts l.bots commands) l.numbers → AreTurns (acts l.bots commands) (filter (is_leader (acts l.bots commands)) (acts (take l.i l.bots) (take l.i commands))) l.turns.items;
  len : array_vec_len l.turns ≤ l.i;
}
