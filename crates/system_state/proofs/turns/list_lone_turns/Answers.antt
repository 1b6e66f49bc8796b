use Rattle.std.proofs.Common.{◌≡◌, ◌+◌, ◌∙◌, arith, ap, get_or, sym, subst, List, [], ◌∷◌, ◌++◌, length, take}
use Rattle.std.proofs.lemmas.List.{get_or_default}
use Rattle.nano_spec.specs.Act.{Act, acts}
use Rattle.system_state.specs.declared.turns.Turn.{Turn}
use Rattle.system_state.specs.Turns.{AreTurns}
use Rattle.step_groups.proofs.Telling.{acts_length}
use Rattle.step_groups.proofs.Mates.{blank}
use Rattle.system_state.proofs.Gathered.{lone_turn_more, take_whole}
use Rattle.system_state.proofs.turns.list_lone_turns.Goals as goal

pub loop-i-preserved : goal.loop-i-preserved
loop-i-preserved c = record {
  turns = λ commands e alone.
      let bots = c.args.bots.now in
      let i = c.loop-i.i in
      let bot = get_or bots i blank in
      subst (λ (ts : List Turn). AreTurns (acts bots commands) (take (i + 1) (acts bots commands)) ts) (sym (c.push.ensures.items ∙ ap (λ (t : Turn). c.loop-i.turns.items ++ t ∷ []) c.alone.ensures))
      (lone_turn_more bots commands c.loop-i.turns.items i bot e c.loop-i-test.true (get_or_default bots i blank bot c.loop-i-test.true) alone (c.loop-i.invariant.turns commands e alone));
  len = c.push.ensures.len ∙ ap (λ n. n + 1) c.loop-i.invariant.len;
}

pub returns : goal.returns
returns c = λ commands e lone.
    let all = acts c.args.bots.now commands in
    subst (λ (xs : List Act). AreTurns all xs c.loop-i.turns.items) (sym lone.leads)
    (subst (λ (xs : List Act). AreTurns all xs c.loop-i.turns.items) (take_whole c.loop-i.i all (let same_length : length all ≡ length c.args.bots.now = acts_length c.args.bots.now commands e in let at_end = c.loop-i-test.false in omega arith))
    (c.loop-i.invariant.turns commands e lone.alone))
