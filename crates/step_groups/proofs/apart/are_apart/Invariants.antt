use Rattle.std.proofs.Common.{◌≤◌, take}
use Rattle.arrayvec.specs.ArrayVec.{array_vec_len}
use Rattle.nano_spec.specs.Act.{acts}
use Rattle.step_groups.proofs.Lone.{AreBoxed}
use Rattle.step_groups.proofs.apart.are_apart.Given as goal

abbrev pub invariant-loop-i : goal.invariant-loop-i
invariant-loop-i l = record {
  boxed : AreBoxed l.all l.hulls.items (acts (take l.i l.bots) (take l.i l.commands));
  len : array_vec_len l.hulls ≤ l.i;
}
