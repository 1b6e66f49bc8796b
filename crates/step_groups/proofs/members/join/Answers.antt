use Rattle.std.proofs.Common.{◌+◌, ◌++◌, ◌≤◌, ◌∙◌, ap, length, map, subst, sym, List}
use Rattle.arrayvec.specs.ArrayVec.{array_vec_len}
use Rattle.vox_geom.proofs.Tests.{test_unequal}
use Rattle.vox_geom.specs.Region.{corners}
use Rattle.nano_spec.specs.declared.system.Bot.{Bot}
use Rattle.step_groups.proofs.Telling.{bot_without}
use Rattle.step_groups.proofs.members.join.Goals as goal

pub loop-i-preserved-then-numbers-i : goal.loop-i-preserved-then-numbers-i
loop-i-preserved-then-numbers-i c =
    let same = sym (bot_without c.args.number c.args.bots.now c.args.numbers.now c.loop-i.i c.loop-i-test.true c.requires.lengths (test_unequal _ _ c.if-numbers-i.true)) in
    record {
      leader = c.loop-i.invariant.leader;
      members = ap (λ (bots : List Bot). c.loop-i.group.members.items ++ map (λ (b : Bot). b.bid) bots) same ∙ c.loop-i.invariant.members;
      boxes = ap (λ (bots : List Bot). c.loop-i.group.boxes.items ++ map (λ (b : Bot). corners b.pos b.pos) bots) same ∙ c.loop-i.invariant.boxes;
      members_room = subst (λ (bots : List Bot). array_vec_len c.loop-i.group.members + length bots ≤ 8) (sym same) c.loop-i.invariant.members_room;
      boxes_room = subst (λ (bots : List Bot). array_vec_len c.loop-i.group.boxes + length bots ≤ 9) (sym same) c.loop-i.invariant.boxes_room;
    }
