use Rattle.std.proofs.Common.{◌≡◌, ◌+◌, List, length, map, sym, ap, subst, ◌∙◌, arith, get_or}
use Rattle.std.specs.List.{Contains}
use Rattle.std.proofs.lemmas.List.{length-map}
use Rattle.std.proofs.lemmas.List.Sorted.{length_permutation}
use Rattle.step_order.proofs.Lists.{In}
use Rattle.system_state.specs.declared.turns.Turn.{Turn}
use Rattle.system_state.specs.Turns.{leader_of}
use Rattle.system_state.proofs.Arranged.{arranged_are, has_turn, known_more, one_more}
use Rattle.system_state.proofs.Gathered.{take_whole}
use Rattle.system_state.proofs.turns.Turns.arrange.Goals as goal

pub turn_of-requires : goal.turn_of-requires
turn_of-requires c =
    subst (λ (ts : List Turn). Contains (map leader_of ts) (get_or c.args.order.now c.loop-leader.leader-index 0)) (sym (c.as_slice.ensures.value ∙ c.self.view_is))
    (has_turn c.args.self.now c.args.order.now c.requires c.loop-leader.leader-index c.loop-leader-test.true)

pub push-requires : goal.push-requires
push-requires c =
    let long : length c.args.order.now ≡ length (map leader_of c.args.self.now) = length_permutation (map leader_of c.args.self.now) c.args.order.now c.requires in
    let same : length (map leader_of c.args.self.now) ≡ length c.args.self.now = length-map c.args.self.now leader_of in
    let here : length c.as_slice.result.now ≡ length c.args.self.now = ap length (c.as_slice.ensures.value ∙ c.self.view_is) in
    (omega arith, omega (arith, long, same, here, c.as_slice.ensures.fits, c.loop-leader.invariant.len, c.loop-leader-test.true))

pub loop-leader-preserved : goal.loop-leader-preserved
loop-leader-preserved c = record {
  leaders = ap (map leader_of) c.push.ensures.items ∙ one_more c.loop-leader.arranged.items c.args.order.now c.loop-leader.leader-index c.turn_of.result c.loop-leader-test.true c.loop-leader.invariant.leaders c.turn_of.ensures.leader;
  known = λ x i.
      known_more c.args.self.now c.loop-leader.arranged.items c.turn_of.result
      (subst (λ (ts : List Turn). Contains ts c.turn_of.result) (c.as_slice.ensures.value ∙ c.self.view_is) c.turn_of.ensures.is_one)
      c.loop-leader.invariant.known x (subst (λ (ts : List Turn). In x ts) c.push.ensures.items i);
  len = c.push.ensures.len ∙ ap (λ n. n + 1) c.loop-leader.invariant.len;
}

pub returns-clause-groups : goal.returns-clause-groups
returns-clause-groups c =
    arranged_are c.args.self.now c.loop-leader.arranged.items c.args.order.now c.requires
    (c.loop-leader.invariant.leaders ∙ take_whole c.loop-leader.leader-index c.args.order.now (let at_end = c.loop-leader-test.false in omega arith))
    c.loop-leader.invariant.known
