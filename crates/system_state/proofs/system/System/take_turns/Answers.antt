use Rattle.std.proofs.Common.{◌≡◌, ◌+◌, ◌*◌, ◌≤◌, ◌<◌, refl, sym, ◌∙◌, ap, subst, arith, length, List, [], map, get_or}
use Rattle.std.specs.Prelude.{IfSome, sum}
use Rattle.std.proofs.lemmas.List.Sorted.{length_permutation}
use Rattle.nano_spec.specs.Act.{Act, acts}
use Rattle.nano_spec.specs.Group.{leaders}
use Rattle.nano_spec.specs.Work.{volatile_count}
use Rattle.step_order.specs.SomeGroups.{after_some}
use Rattle.system_state.specs.declared.turns.Turn.{Turn}
use Rattle.bot_crew.specs.Crew.{bot_of}
use Rattle.system_state.specs.Bounds.{IsWithin}
use Rattle.system_state.specs.Effects.{MayTake, after_turn}
use Rattle.system_state.specs.Painting.{met_count}
use Rattle.system_state.proofs.Advancing.{may_now, no_turn, place_below, taken_more, touched_more, turns_many, turns_of, within_wider}
use Rattle.system_state.proofs.Arranged.{same_sum}
use Rattle.system_state.proofs.Gathered.{acts_most, leaders_most, take_whole}
use Rattle.system_state.proofs.system.System.take_turns.Goals as goal

pub loop-turn-init : goal.loop-turn-init
loop-turn-init g c = record {
  taken = λ order perm are. c.pay_upkeep.ensures.value ∙ c.groups_take_turns.ensures.first c.args.self.now c.args.commands.now c.requires.judged.0 c.recall.ensures.ready c.requires.judged.1;
  within = c.pay_upkeep.ensures.within;
  touches = λ order perm are. let sum_zero : sum [] ≡ 0 = refl in omega arith;
}

pub bounds-commands-from : goal.bounds-commands-from
bounds-commands-from g c =
    let items : c.list-turn-items.result.now ≡ c.args.turns.now = c.list-turn-items.ensures in
    let lt : c.loop-turn.turn-index < length c.args.turns.now = subst (λ (ts : List Turn). c.loop-turn.turn-index < length ts) items c.loop-turn-test.true in
    let law = turns_of c.groups_take_turns.ensures.bots c.groups_take_turns.ensures.rules c.groups_take_turns.ensures.places c.groups_take_turns.ensures.next in
    subst (λ n. n < length c.args.commands.now) (sym (c.from.ensures ∙ ap (λ (ts : List Turn). (get_or ts c.loop-turn.turn-index (no_turn)).place) items))
    (place_below c.args.self.now c.args.commands.now c.requires.judged.0 c.recall.ensures.ready c.requires.judged.1 c.recall_all.ensures c.requires.turns.order c.requires.turns.groups c.args.turns.now c.requires.turns.each c.loop-turn.turn-index lt (no_turn)
    law
    c.loop-turn.self (c.loop-turn.invariant.taken c.requires.turns.order c.requires.turns.groups c.requires.turns.each) c.recall-in-loop-turn.ensures.ready)

pub take_turn-requires-clause-may : goal.take_turn-requires-clause-may
take_turn-requires-clause-may g c =
    let items : c.list-turn-items.result.now ≡ c.args.turns.now = c.list-turn-items.ensures in
    let lt : c.loop-turn.turn-index < length c.args.turns.now = subst (λ (ts : List Turn). c.loop-turn.turn-index < length ts) items c.loop-turn-test.true in
    let place : c.from.result ≡ (get_or c.args.turns.now c.loop-turn.turn-index (no_turn)).place = c.from.ensures ∙ ap (λ (ts : List Turn). (get_or ts c.loop-turn.turn-index (no_turn)).place) items in
    let law = turns_of c.groups_take_turns.ensures.bots c.groups_take_turns.ensures.rules c.groups_take_turns.ensures.places c.groups_take_turns.ensures.next in
    subst (λ (ts : List Turn). IfSome (bot_of c.loop-turn.self.bots (get_or ts c.loop-turn.turn-index (no_turn)).leader) (λ bot. MayTake c.loop-turn.self.matrix.resolution c.loop-turn.self.bots bot (get_or ts c.loop-turn.turn-index (no_turn)).partner c.index-commands-from.result)) (sym items)
    (may_now c.args.self.now c.args.commands.now c.requires.judged.0 c.recall.ensures.ready c.requires.judged.1 c.recall_all.ensures c.requires.turns.order c.requires.turns.groups c.args.turns.now c.requires.turns.each c.loop-turn.turn-index lt (no_turn)
    law
    c.loop-turn.self (c.loop-turn.invariant.taken c.requires.turns.order c.requires.turns.groups c.requires.turns.each) c.recall-in-loop-turn.ensures.ready c.index-commands-from.result (c.index-commands-from.is ∙ ap (λ n. get_or c.args.commands.now n c.index-commands-from.result) place))

pub take_turn-requires-clause-payable : goal.take_turn-requires-clause-payable
take_turn-requires-clause-payable g c =
    let all = acts c.args.self.now.bots c.args.commands.now in
    let items : length c.list-turn-items.result.now ≡ length c.args.turns.now = ap length c.list-turn-items.ensures in
    let many : length c.args.turns.now ≡ length c.requires.turns.order = turns_many all c.requires.turns.order c.args.turns.now c.requires.turns.each in
    let same : length c.requires.turns.order ≡ length (leaders all) = length_permutation (leaders all) c.requires.turns.order c.requires.turns.groups in
    let few : length (leaders all) ≤ length all = leaders_most all in
    let fewer : length all ≤ length c.args.self.now.bots = acts_most c.args.self.now.bots c.args.commands.now in
    let most = c.recall.ensures.crew.most in
    let lt = c.loop-turn-test.true in
    within_wider (4611686020427387904 + 357492 * c.loop-turn.turn-index) 9000000000000000000 c.loop-turn.self.energy (omega arith) c.loop-turn.invariant.within

pub loop-turn-preserved : goal.loop-turn-preserved
loop-turn-preserved g c =
    let items : c.list-turn-items.result.now ≡ c.args.turns.now = c.list-turn-items.ensures in
    let lt : c.loop-turn.turn-index < length c.args.turns.now = subst (λ (ts : List Turn). c.loop-turn.turn-index < length ts) items c.loop-turn-test.true in
    let place : c.from.result ≡ (get_or c.args.turns.now c.loop-turn.turn-index (no_turn)).place = c.from.ensures ∙ ap (λ (ts : List Turn). (get_or ts c.loop-turn.turn-index (no_turn)).place) items in
    let command = c.index-commands-from.is ∙ ap (λ n. get_or c.args.commands.now n c.index-commands-from.result) place in
    let law = turns_of c.groups_take_turns.ensures.bots c.groups_take_turns.ensures.rules c.groups_take_turns.ensures.places c.groups_take_turns.ensures.next in
    record {
      taken = λ order perm are. taken_more c.args.self.now c.args.commands.now c.requires.judged.0 c.recall.ensures.ready c.requires.judged.1 c.recall_all.ensures order perm c.args.turns.now are c.loop-turn.turn-index lt (no_turn) law c.loop-turn.self (c.loop-turn.invariant.taken order perm are) c.recall-in-loop-turn.ensures.ready c.group_is_replaced.ensures c.index-commands-from.result command c.take_turn.new.self
          (subst (λ (ts : List Turn). IfSome (bot_of c.loop-turn.self.bots (get_or ts c.loop-turn.turn-index (no_turn)).leader) (λ bot. c.take_turn.new.self ≡ after_turn c.loop-turn.self bot (get_or ts c.loop-turn.turn-index (no_turn)).partner c.index-commands-from.result)) items c.take_turn.ensures.value);
      within = subst (λ k. IsWithin k c.take_turn.new.self.energy) (let sum_is : 4611686020427387904 + 357492 * c.loop-turn.turn-index + 357492 ≡ 4611686020427387904 + 357492 * (c.loop-turn.turn-index + 1) = omega arith in sum_is) (c.take_turn.ensures.within (4611686020427387904 + 357492 * c.loop-turn.turn-index) c.loop-turn.invariant.within);
      touches = λ order perm are. touched_more c.args.self.now c.args.commands.now c.requires.judged.0 c.recall.ensures.ready c.requires.judged.1 c.recall_all.ensures order perm c.args.turns.now are c.loop-turn.turn-index lt (no_turn) law c.loop-turn.self (c.loop-turn.invariant.taken order perm are) c.recall-in-loop-turn.ensures.ready c.index-commands-from.result command c.loop-turn.steps c.take_turn.new.steps c.args.steps.now
          (subst (λ (ts : List Turn). IfSome (bot_of c.loop-turn.self.bots (get_or ts c.loop-turn.turn-index (no_turn)).leader) (λ bot. c.take_turn.new.steps ≤ c.loop-turn.steps + met_count c.loop-turn.self.matrix bot c.index-commands-from.result)) items c.take_turn.ensures.touches)
          (c.loop-turn.invariant.touches order perm are);
    }

pub returns-clause-value : goal.returns-clause-value
returns-clause-value g c =
    let all = acts c.args.self.now.bots c.args.commands.now in
    let order = c.requires.turns.order in
    let many : length c.args.turns.now ≡ length order = turns_many all order c.args.turns.now c.requires.turns.each in
    let items : length c.list-turn-items.result.now ≡ length c.args.turns.now = ap length c.list-turn-items.ensures in
    let past = c.loop-turn-test.false in
    c.loop-turn.invariant.taken order c.requires.turns.groups c.requires.turns.each
    ∙ (ap (after_some c.args.self.now all) (take_whole c.loop-turn.turn-index order (omega arith))
    ∙ c.groups_take_turns.ensures.last c.args.self.now c.args.commands.now c.requires.judged.0 c.recall.ensures.ready c.requires.judged.1 order c.requires.turns.groups)

pub returns-clause-touches : goal.returns-clause-touches
returns-clause-touches g c =
    let all = acts c.args.self.now.bots c.args.commands.now in
    let order = c.requires.turns.order in
    let count = volatile_count c.args.self.now.matrix all in
    let many : length c.args.turns.now ≡ length order = turns_many all order c.args.turns.now c.requires.turns.each in
    let items : length c.list-turn-items.result.now ≡ length c.args.turns.now = ap length c.list-turn-items.ensures in
    let past = c.loop-turn-test.false in
    let each : c.loop-turn.steps ≤ c.args.steps.now + sum (map count order) =
    subst (λ (xs : List Act). c.loop-turn.steps ≤ c.args.steps.now + sum (map count xs)) (take_whole c.loop-turn.turn-index order (omega arith)) (c.loop-turn.invariant.touches order c.requires.turns.groups c.requires.turns.each) in
    subst (λ n. c.loop-turn.steps ≤ c.args.steps.now + n) (same_sum count (leaders all) order c.requires.turns.groups) each
