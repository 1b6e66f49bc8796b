use Rattle.std.proofs.Common.{◌≡◌, map, take}
use Rattle.arrayvec.specs.ArrayVec.{array_vec_len}
use Rattle.nano_spec.specs.Act.{acts}
use Rattle.step_groups.specs.Numbers.{group_number}
use Rattle.step_groups.proofs.numbers.number_groups.Given as goal

abbrev pub invariant-loop-i : goal.invariant-loop-i
invariant-loop-i l = record {
  numbers : l.numbers.items ≡ map (group_number (acts l.bots l.commands)) (acts (take l.i l.bots) (take l.i l.commands));
  len : array_vec_len l.numbers ≡ l.i;
}
