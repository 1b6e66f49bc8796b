use Rattle.std.proofs.Common.{◌≡◌, ◌+◌, ◌≤◌, List, ◌++◌, length}
use Rattle.std.specs.Prelude.{vec_capacity, vec_len}
use Rattle.nano_spec.specs.declared.commands.Command.{Command}
use Rattle.plan_tape.specs.Leg.{IsLeg, moves}
use Rattle.plan_tape.proofs.axis.push_leg.Given as goal

-- the moves so far, which any moves from here to the end complete
abbrev pub invariant-loop-at : goal.invariant-loop-at
invariant-loop-at l = record {
  so_far : (done : List Command) × (l.commands.items ≡ l.initial.commands.items ++ done) × ((rest : List Command) → IsLeg l.axis l.at l.to rest → IsLeg l.axis l.from l.to (done ++ rest)) × (length done + moves l.at l.to ≡ moves l.from l.to);
  len : vec_len l.commands + moves l.at l.to ≡ vec_len l.initial.commands + moves l.from l.to;
  capacity : vec_capacity l.commands ≡ vec_capacity l.initial.commands;
  within : l.at ≤ 400;
}

abbrev pub decreases-loop-at : goal.decreases-loop-at
decreases-loop-at l = moves l.at l.to
