use Rattle.std.proofs.Common.{sym, ◌∙◌, ap, arith, List}
use Rattle.nano_spec.specs.declared.system.Bot.{Bot}
use Rattle.nano_spec.specs.Matrix.{Matrix}
use Rattle.plan_tape.specs.Progress.{spot, top}
use Rattle.group_planner.specs.Phases.{first_at}
use Rattle.group_planner.proofs.Closing.{risen_few}
use Rattle.group_planner.proofs.opening.open.Goals as goal

pub split-requires-clause-alone : goal.split-requires-clause-alone
split-requires-clause-alone c = let first = c.in_ok-tape.ensures.risen.bots_are in first ∙ ap first_at (sym (ap spot first))

pub split-requires-clause-room : goal.split-requires-clause-room
split-requires-clause-room c =
    let tape_ensured = c.in_ok-tape.ensures in
    let same_z = ap (λ (bots : List Bot). (spot bots).z) tape_ensured.risen.bots_are in
    let resolution_is = ap (λ (m : Matrix). m.resolution) (tape_ensured.risen.matrix ∙ tape_ensured.source) in
    let room = c.requires.room in
    omega (arith, same_z, resolution_is, room)

pub split-requires-clause-limit : goal.split-requires-clause-limit
split-requires-clause-limit c = omega (arith, risen_few c.in_ok-tape.tape c.args.source c.in_ok-tape.ensures.risen c.in_ok-tape.ensures.source c.recall.ensures.whole)

pub returns-clause-opened : goal.returns-clause-opened
returns-clause-opened c =
    let risen = c.in_ok-tape.ensures.risen in
    let split_ensured = c.in_ok-split.ensures in
    let steps = split_ensured.steps_are in
    let cost = split_ensured.spends.commands_are in
    let weight = split_ensured.spends.bytes_are in
    let risen_steps = risen.steps in
    let risen_commands = risen.commands in
    let risen_bytes = risen.bytes_are in
    record {
      matrix = split_ensured.matrix ∙ (risen.matrix ∙ sym split_ensured.source);
      pair = split_ensured.pair;
      there = split_ensured.rear_is ∙ (ap spot risen.bots_are ∙ ap top (sym split_ensured.source));
      steps_are = omega (arith, steps, risen_few c.in_ok-tape.tape c.args.source c.in_ok-tape.ensures.risen c.in_ok-tape.ensures.source c.recall.ensures.whole);
      commands_are = omega (arith, cost, steps, risen_commands);
      bytes_are = omega (arith, weight, steps, risen_steps, risen_bytes);
    }
