use Rattle.std.proofs.Common.{ℕ, ◌+◌, refl, sym, ◌∙◌, ap, subst, arith, length, get_or}
use Rattle.std.specs.Prelude.{IsTrue}
use Rattle.nano_spec.specs.declared.commands.Command.TheVariants.{Halt}
use Rattle.step_machine.proofs.Turning.{no_bot}
use Rattle.nano_spec.specs.Act.{stays_in_space}
use Rattle.nano_spec.specs.Matrix.{Matrix, is_full}
use Rattle.step_debugger.specs.Middle.{IsEditOf}
use Rattle.step_debugger.proofs.Between.{all_kept, decided, found, has_command, not_edited, not_led, one_kept, stays_here, unfound}
use Rattle.step_debugger.proofs.middle.full_after.Goals as goal
use Rattle.step_groups.specs.Judging.{act}

pub loop-i-preserved-then-is_none : goal.loop-i-preserved-then-is_none
loop-i-preserved-then-is_none g c =
    let same = c.bots-bots.ensures.value ∙ c.crew.ensures.value in
    let here = has_command c.args.machine.now.state c.args.next.now (c.args.machine.now.steps + 1) c.crew.ensures.ready c.requires.judged c.args.begun.now c.args.c c.requires.within in
    one_kept c.args.machine.now.state c.args.next.now (c.args.machine.now.steps + 1) c.crew.ensures.ready c.requires.judged c.args.begun.now c.args.c c.requires.within
    c.bots-bots.result.now same c.loop-i.i c.loop-i-test.true (get_or c.bots-bots.result.now c.loop-i.i no_bot) no_bot (get_or c.args.next.now c.loop-i.i Halt) Halt refl refl c.loop-i.invariant
    (not_led c.args.machine.now.state c.args.next.now (c.args.machine.now.steps + 1) c.crew.ensures.ready c.requires.judged c.args.begun.now c.args.c c.requires.within
    c.bots-bots.result.now same c.loop-i.i c.loop-i-test.true (get_or c.bots-bots.result.now c.loop-i.i no_bot) no_bot (get_or c.args.next.now c.loop-i.i Halt) Halt refl refl
    (unfound c.args.begun.now (get_or c.bots-bots.result.now c.loop-i.i no_bot).bid c.place_of.result c.is_none.result c.is_none.ensures c.if-is_none.true c.place_of.ensures.none))

pub bounds-next-i : goal.bounds-next-i
bounds-next-i g c =
    let same = ap length (c.bots-bots.ensures.value ∙ c.crew.ensures.value) in
    let below = c.loop-i-test.true in
    has_command c.args.machine.now.state c.args.next.now (c.args.machine.now.steps + 1) c.crew.ensures.ready c.requires.judged c.args.begun.now c.args.c c.requires.within c.loop-i.i (omega (arith, same, below))

pub edit_of-requires-clause-stays : goal.edit_of-requires-clause-stays
edit_of-requires-clause-stays g c =
    let same = c.bots-bots.ensures.value ∙ c.crew.ensures.value in
    let resolution_is = c.resolution.ensures.value ∙ ap (λ (m : Matrix). m.resolution) c.matrix-matrix.ensures.value in
    subst (λ (n : ℕ). IsTrue (stays_in_space n (act (get_or c.bots-bots.result.now c.loop-i.i no_bot) c.index-next-i.result))) (sym resolution_is)
    (stays_here c.args.machine.now.state c.args.next.now (c.args.machine.now.steps + 1) c.crew.ensures.ready c.requires.judged c.args.begun.now c.args.c c.requires.within
    c.bots-bots.result.now same c.loop-i.i c.loop-i-test.true (get_or c.bots-bots.result.now c.loop-i.i no_bot) no_bot c.index-next-i.result _ refl c.index-next-i.is)

pub returns-in-Some-clause-value : goal.returns-in-Some-clause-value
returns-in-Some-clause-value g c =
    let same = c.bots-bots.ensures.value ∙ c.crew.ensures.value in
    decided c.args.machine.now.state c.args.next.now (c.args.machine.now.steps + 1) c.crew.ensures.ready c.requires.judged c.args.begun.now c.args.c c.requires.within
    c.bots-bots.result.now same c.loop-i.i c.loop-i-test.true (get_or c.bots-bots.result.now c.loop-i.i no_bot) no_bot c.index-next-i.result _ refl c.index-next-i.is
    c.in-Some.full (found c.args.begun.now (get_or c.bots-bots.result.now c.loop-i.i no_bot).bid c.place_of.result c.is_none.result c.is_none.ensures c.if-is_none.false c.place_of.ensures.found) c.in-Some.ensures

pub loop-i-preserved : goal.loop-i-preserved
loop-i-preserved g c =
    let same = c.bots-bots.ensures.value ∙ c.crew.ensures.value in
    one_kept c.args.machine.now.state c.args.next.now (c.args.machine.now.steps + 1) c.crew.ensures.ready c.requires.judged c.args.begun.now c.args.c c.requires.within
    c.bots-bots.result.now same c.loop-i.i c.loop-i-test.true (get_or c.bots-bots.result.now c.loop-i.i no_bot) no_bot c.index-next-i.result _ refl c.index-next-i.is c.loop-i.invariant
    (not_edited c.args.machine.now.state c.args.next.now (c.args.machine.now.steps + 1) c.crew.ensures.ready c.requires.judged c.args.begun.now c.args.c c.requires.within
    c.bots-bots.result.now same c.loop-i.i c.loop-i-test.true (get_or c.bots-bots.result.now c.loop-i.i no_bot) no_bot c.index-next-i.result _ refl c.index-next-i.is
    (subst (λ o. IsEditOf (act (get_or c.bots-bots.result.now c.loop-i.i no_bot) c.index-next-i.result) c.args.c o) c.in_default.is c.edit_of.ensures))

pub returns-clause-value : goal.returns-clause-value
returns-clause-value g c =
    let same = ap length (c.bots-bots.ensures.value ∙ c.crew.ensures.value) in
    let past = c.loop-i-test.false in
    (c.full_at.ensures.value ∙ ap (λ (m : Matrix). is_full m c.args.c) c.matrix-matrix.ensures.value)
    ∙ sym (all_kept c.args.machine.now.state c.args.next.now (c.args.machine.now.steps + 1) c.crew.ensures.ready c.requires.judged c.args.begun.now c.args.c c.requires.within c.loop-i.i (omega (arith, same, past)) c.loop-i.invariant)
