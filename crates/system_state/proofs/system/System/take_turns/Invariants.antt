use Rattle.std.proofs.Common.{◌≡◌, ◌+◌, ◌*◌, ◌≤◌, List, map, take}
use Rattle.std.specs.Prelude.{sum, IsPermutation}
use Rattle.nano_spec.specs.Act.{Act, acts}
use Rattle.nano_spec.specs.Group.{leaders}
use Rattle.nano_spec.specs.Work.{volatile_count}
use Rattle.step_order.specs.SomeGroups.{after_some}
use Rattle.system_state.specs.Bounds.{IsWithin}
use Rattle.system_state.specs.Turns.{AreTurns}
use Rattle.system_state.proofs.system.System.take_turns.Given as goal

-- the order of the leaders is one of the turns
abbrev pub invariant-loop-turn : goal.invariant-loop-turn
invariant-loop-turn g l = record {
  taken : (order : List Act) → IsPermutation (leaders (acts l.fn.self.bots l.commands)) order → AreTurns (acts l.fn.self.bots l.commands) order l.turns → l.self ≡ after_some l.fn.self (acts l.fn.self.bots l.commands) (take l.turn-index order);
  within : IsWithin (4611686020427387904 + 357492 * l.turn-index) l.self.energy;
  touches : (order : List Act) → IsPermutation (leaders (acts l.fn.self.bots l.commands)) order → AreTurns (acts l.fn.self.bots l.commands) order l.turns → l.steps ≤ l.fn.steps + sum (map (volatile_count l.fn.self.matrix (acts l.fn.self.bots l.commands)) (take l.turn-index order));
}
