use Rattle.std.proofs.Common.{◌+◌, ◌≤◌, ap, ◌∙◌, sym, subst, List, None}
use Rattle.nano_spec.specs.Act.{Act}
use Rattle.nano_spec.specs.State.{State}
use Rattle.nano_spec.specs.declared.commands.Command.TheVariants.{Fill, LMove, SMove, Void, Wait}
use Rattle.nano_spec.specs.declared.commands.Command.{Command}
use Rattle.step_groups.specs.Judging.{act, rule_broken, touches_of}
use Rattle.step_groups.specs.Steps.{acts_of_step, start_of_step}
use Rattle.step_groups.proofs.BlockedWays.{at_command, quiet}
use Rattle.step_groups.proofs.one_pass.judge_hull.Goals as goal

pub returns-in-Wait-clause-value : goal.returns-in-Wait-clause-value
returns-in-Wait-clause-value g c =
    let state : State = start_of_step c.args.step.now in
    let acts : List Act = acts_of_step c.args.step.now in
    at_command state acts c.args.step.now.number c.args.bot.now (Wait) c.args.command.now (None) (sym c.in-Wait.is) (sym (quiet state acts c.args.step.now.number c.args.bot.now))

pub returns-in-SMove-clause-value : goal.returns-in-SMove-clause-value
returns-in-SMove-clause-value g c =
    let state : State = start_of_step c.args.step.now in
    let acts : List Act = acts_of_step c.args.step.now in
    at_command state acts c.args.step.now.number c.args.bot.now (SMove c.diff.result) c.args.command.now (rule_broken c.hull_of_move.result) (ap SMove c.diff.ensures.value ∙ sym c.in-SMove.is) (c.hull_of_move.ensures.value state acts)

pub returns-in-LMove-clause-value : goal.returns-in-LMove-clause-value
returns-in-LMove-clause-value g c =
    let state : State = start_of_step c.args.step.now in
    let acts : List Act = acts_of_step c.args.step.now in
    at_command state acts c.args.step.now.number c.args.bot.now (LMove c.diff-in-LMove.result c.diff-in-LMove-2.result) c.args.command.now (rule_broken c.hull_of_moves.result) ((λ i. LMove (c.diff-in-LMove.ensures.value i) (c.diff-in-LMove-2.ensures.value i)) ∙ sym c.in-LMove.is) (c.hull_of_moves.ensures.value state acts)

pub returns-in-Fill-clause-value : goal.returns-in-Fill-clause-value
returns-in-Fill-clause-value g c =
    let state : State = start_of_step c.args.step.now in
    let acts : List Act = acts_of_step c.args.step.now in
    at_command state acts c.args.step.now.number c.args.bot.now (Fill c.diff-in-Fill.result) c.args.command.now (rule_broken c.hull_of_edit.result) (ap Fill c.diff-in-Fill.ensures.value ∙ sym c.in-Fill.is) (c.hull_of_edit.ensures.fill state acts)

pub returns-in-Void-clause-value : goal.returns-in-Void-clause-value
returns-in-Void-clause-value g c =
    let state : State = start_of_step c.args.step.now in
    let acts : List Act = acts_of_step c.args.step.now in
    at_command state acts c.args.step.now.number c.args.bot.now (Void c.diff-in-Void.result) c.args.command.now (rule_broken c.hull_of_edit-in-Void.result) (ap Void c.diff-in-Void.ensures.value ∙ sym c.in-Void.is) (c.hull_of_edit-in-Void.ensures.void state acts)

pub returns-in-SMove-clause-touches : goal.returns-in-SMove-clause-touches
returns-in-SMove-clause-touches g c = subst (λ (k : Command). c.hull_of_move.new.steps ≤ c.args.steps.now + touches_of c.args.step.now.planes.now (act c.args.bot.now k)) (ap SMove c.diff.ensures.value ∙ sym c.in-SMove.is) c.hull_of_move.ensures.touches

pub returns-in-LMove-clause-touches : goal.returns-in-LMove-clause-touches
returns-in-LMove-clause-touches g c = subst (λ (k : Command). c.hull_of_moves.new.steps ≤ c.args.steps.now + touches_of c.args.step.now.planes.now (act c.args.bot.now k)) ((λ i. LMove (c.diff-in-LMove.ensures.value i) (c.diff-in-LMove-2.ensures.value i)) ∙ sym c.in-LMove.is) c.hull_of_moves.ensures.touches
