use Rattle.step_machine.proofs.OneRegion.{voided_region_is}
use Rattle.step_machine.proofs.one_region.voided_region.Goals as goal

pub returns : goal.returns
returns c = voided_region_is c.args.matrix.now c.resolution.result c.args.bot.now c.args.command.now c.in-Some.edited c.resolution.ensures.value c.in-Some.ensures c.if-edited.false
