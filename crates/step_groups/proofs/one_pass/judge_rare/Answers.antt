use Rattle.std.proofs.Common.{◌+◌, ◌≤◌, ◌∙◌, sym, subst, List, None}
use Rattle.nano_spec.specs.Act.{Act}
use Rattle.nano_spec.specs.State.{State}
use Rattle.nano_spec.specs.declared.commands.Command.TheVariants.{Fission, Flip, Halt}
use Rattle.nano_spec.specs.declared.commands.Command.{Command}
use Rattle.step_groups.specs.Judging.{act, rule_broken, touches_of}
use Rattle.step_groups.specs.Steps.{acts_of_step, start_of_step}
use Rattle.step_groups.proofs.BlockedWays.{at_command, quiet}
use Rattle.step_groups.proofs.one_pass.judge_rare.Goals as goal

pub returns-in-Halt-clause-value : goal.returns-in-Halt-clause-value
returns-in-Halt-clause-value g c =
    let state : State = start_of_step c.args.step.now in
    let acts : List Act = acts_of_step c.args.step.now in
    at_command state acts c.args.step.now.number c.args.bot.now (Halt) c.args.command.now (rule_broken c.hull_of_halt.result) (sym c.in-Halt.is) c.hull_of_halt.ensures.value

pub returns-in-Flip-clause-value : goal.returns-in-Flip-clause-value
returns-in-Flip-clause-value g c =
    let state : State = start_of_step c.args.step.now in
    let acts : List Act = acts_of_step c.args.step.now in
    at_command state acts c.args.step.now.number c.args.bot.now (Flip) c.args.command.now (None) (sym c.in-Flip.is) (sym (quiet state acts c.args.step.now.number c.args.bot.now))

pub returns-in-Fission-clause-value : goal.returns-in-Fission-clause-value
returns-in-Fission-clause-value g c =
    let state : State = start_of_step c.args.step.now in
    let acts : List Act = acts_of_step c.args.step.now in
    at_command state acts c.args.step.now.number c.args.bot.now (Fission c.diff.result c.in-Fission.m) c.args.command.now (rule_broken c.hull_of_fission.result) ((λ i. Fission (c.diff.ensures.value i) c.in-Fission.m) ∙ sym c.in-Fission.is) (c.hull_of_fission.ensures.value state acts)

pub returns-in-Fission-clause-touches : goal.returns-in-Fission-clause-touches
returns-in-Fission-clause-touches g c = subst (λ (k : Command). c.hull_of_fission.new.steps ≤ c.args.steps.now + touches_of c.args.step.now.planes.now (act c.args.bot.now k)) ((λ i. Fission (c.diff.ensures.value i) c.in-Fission.m) ∙ sym c.in-Fission.is) c.hull_of_fission.ensures.touches
