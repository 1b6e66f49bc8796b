use Rattle.std.proofs.Common.{◌∙◌, sym}
use Rattle.nano_spec.specs.Act.{acts}
use Rattle.nano_spec.specs.Group.{are_together}
use Rattle.step_groups.specs.Judging.{act}
use Rattle.step_groups.proofs.Telling.{acts_length, none_found}
use Rattle.step_groups.proofs.numbers.first_mate.Goals as goal

pub returns-then-acts_alone-clause-value : goal.returns-then-acts_alone-clause-value
returns-then-acts_alone-clause-value c =
    sym (none_found (are_together (act c.args.bot.now c.args.command.now)) (acts c.args.bots.now c.args.commands.now) (c.requires.alone (sym c.acts_alone.ensures ∙ c.if-acts_alone.true))
    ∙ acts_length c.args.bots.now c.args.commands.now c.requires.lengths)
