use Rattle.std.proofs.Common.{◌≡◌, ◌+◌, ◌≤◌, ◌++◌, drop, length, map}
use Rattle.arrayvec.specs.ArrayVec.{array_vec_len}
use Rattle.vox_geom.specs.Region.{corners}
use Rattle.nano_spec.specs.declared.system.Bot.{Bot}
use Rattle.step_groups.specs.Numbers.{with_number}
use Rattle.step_groups.proofs.members.join.Given as goal

abbrev pub invariant-loop-i : goal.invariant-loop-i
invariant-loop-i l = record {
  leader : l.group.leader ≡ l.initial.group.leader;
  members : l.group.members.items ++ map (λ (b : Bot). b.bid) (with_number l.number (drop l.i l.bots) (drop l.i l.numbers)) ≡ l.initial.group.members.items ++ map (λ (b : Bot). b.bid) (with_number l.number l.bots l.numbers);
  boxes : l.group.boxes.items ++ map (λ (b : Bot). corners b.pos b.pos) (with_number l.number (drop l.i l.bots) (drop l.i l.numbers)) ≡ l.initial.group.boxes.items ++ map (λ (b : Bot). corners b.pos b.pos) (with_number l.number l.bots l.numbers);
  members_room : array_vec_len l.group.members + length (with_number l.number (drop l.i l.bots) (drop l.i l.numbers)) ≤ 8;
  boxes_room : array_vec_len l.group.boxes + length (with_number l.number (drop l.i l.bots) (drop l.i l.numbers)) ≤ 9;
}
