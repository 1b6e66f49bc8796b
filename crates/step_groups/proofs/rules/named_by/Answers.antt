use Rattle.std.proofs.Common.{◌∙◌, sym}
use Rattle.vox_geom.specs.Point.{point, plus}
use Rattle.nano_spec.specs.declared.commands.Command.TheVariants.{Fill}
use Rattle.step_groups.specs.Judging.{act}
use Rattle.step_groups.proofs.BlockedWays.{near, stays}
use Rattle.step_groups.proofs.rules.named_by.Goals as goal

pub returns-clause-fill : goal.returns-clause-fill
returns-clause-fill c = λ s all. let planes = c.args.planes.now in
    sym (near (record s { matrix = planes }) all c.args.step c.args.bot c.args.d ∙ stays c.args.step (act c.args.bot (Fill c.args.d)) planes.resolution (plus (point c.args.bot.pos) c.args.d) c.in-Some.ensures.some)

pub returns-clause-void : goal.returns-clause-void
returns-clause-void c = λ s all. let planes = c.args.planes.now in
    sym (near (record s { matrix = planes }) all c.args.step c.args.bot c.args.d ∙ stays c.args.step (act c.args.bot (Fill c.args.d)) planes.resolution (plus (point c.args.bot.pos) c.args.d) c.in-Some.ensures.some)
