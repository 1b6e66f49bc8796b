use Rattle.std.proofs.Common.{ap, ◌∙◌, sym, subst, ◌+◌, ◌≤◌}
use Rattle.nano_spec.specs.declared.commands.Command.TheVariants.{SMove}
use Rattle.step_groups.specs.Judging.{act, rule_broken, first_fault, later_rules, touches_of}
use Rattle.step_groups.proofs.OnlyOne.{allowed, read_once}
use Rattle.step_groups.proofs.single.judge_move.Goals as goal

pub returns-then-allows-clause-value : goal.returns-then-allows-clause-value
returns-then-allows-clause-value g c = λ harmonics energy.
    allowed c.args.planes.now harmonics c.args.profile c.args.bot (SMove c.args.d) c.args.step (rule_broken c.end_of_move.result) (sym c.allows.ensures ∙ c.if-allows.true)
    (λ s all. c.end_of_move.ensures.value s all ∙ ap (λ d. first_fault (record s { matrix = c.args.planes.now }) all c.args.step (act c.args.bot (SMove d)) later_rules) c.diff.ensures.value)
    energy

pub returns-then-allows-clause-touches : goal.returns-then-allows-clause-touches
returns-then-allows-clause-touches g c =
    read_once c.args.planes.now c.args.bot (SMove c.args.d) c.args.steps.now c.end_of_move.new.steps
    (subst (λ d. c.end_of_move.new.steps ≤ c.args.steps.now + touches_of c.args.planes.now (act c.args.bot (SMove d))) c.diff.ensures.value c.end_of_move.ensures.touches)
