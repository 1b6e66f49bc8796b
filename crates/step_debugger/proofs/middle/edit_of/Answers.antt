use Rattle.std.proofs.Common.{sym, ◌∙◌}
use Rattle.step_debugger.proofs.Between.{edit_outside, edit_within}
use Rattle.step_debugger.proofs.middle.edit_of.Goals as goal

pub returns-then-has : goal.returns-then-has
returns-then-has c = edit_within c.args.r c.args.bot.now c.args.command.now c.in_ok-edited.edited c.in_ok-edited.ensures c.args.c (sym c.has.ensures ∙ c.if-has.true)

pub returns : goal.returns
returns c = edit_outside c.args.r c.args.bot.now c.args.command.now c.in_ok-edited.edited c.in_ok-edited.ensures c.args.c (sym c.has.ensures ∙ c.if-has.false)
