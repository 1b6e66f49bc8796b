use Rattle.std.proofs.Common.{◌≤◌, filter, take}
use Rattle.arrayvec.specs.ArrayVec.{array_vec_len}
use Rattle.nano_spec.specs.Act.{acts}
use Rattle.nano_spec.specs.Group.{is_leader}
use Rattle.step_groups.specs.Groups.{AreGroups}
use Rattle.step_groups.proofs.members.list_groups.Given as goal

abbrev pub invariant-loop-i : goal.invariant-loop-i
invariant-loop-i l = record {
  groups : AreGroups l.planes.resolution (acts l.bots l.commands) (filter (is_leader (acts l.bots l.commands)) (acts (take l.i l.bots) (take l.i l.commands))) l.groups.items;
  len : array_vec_len l.groups ≤ l.i;
}
