use Rattle.std.proofs.Common.{arith}
use Rattle.step_groups.specs.Judging.{act}
use Rattle.step_machine.proofs.Cells.{IsRegionOf, listed, listed_none, size_is}
use Rattle.step_machine.proofs.Regions.{edits_nothing, edits_region, idle_edits_nothing}
use Rattle.step_machine.proofs.changes.list_change.Goals as goal

pub returns-in_default-clause-items : goal.returns-in_default-clause-items
returns-in_default-clause-items g c =
    (listed_none c.args.matrix.now c.args.full (act c.args.bot.now c.args.command.now) c.args.list.now.items c.args.list.now.spare 0
    (idle_edits_nothing c.args.bot.now c.args.command.now c.args.full c.in_default.ensures)).items

pub returns-then-edited-full-clause-items : goal.returns-then-edited-full-clause-items
returns-then-edited-full-clause-items g c =
    (listed_none c.args.matrix.now c.args.full (act c.args.bot.now c.args.command.now) c.args.list.now.items c.args.list.now.spare 0
    (edits_nothing c.resolution.result c.args.bot.now c.args.command.now c.in-Some.edited c.args.full c.in-Some.ensures c.if-edited-full.true)).items

pub list_region-requires-clause-room : goal.list_region-requires-clause-room
list_region-requires-clause-room g c =
    let region : IsRegionOf c.in-Some.edited.region c.args.full (act c.args.bot.now c.args.command.now) = edits_region c.resolution.result c.args.bot.now c.args.command.now c.in-Some.edited c.args.full c.in-Some.ensures c.if-edited-full.false in
    let sized = size_is c.args.matrix.now c.resolution.result c.args.full (act c.args.bot.now c.args.command.now) c.in-Some.edited.region c.resolution.ensures.value c.in-Some.ensures.ordered c.in-Some.ensures.within region in
    omega (arith, sized, c.requires.room)

pub returns-clause-items : goal.returns-clause-items
returns-clause-items g c =
    let region : IsRegionOf c.in-Some.edited.region c.args.full (act c.args.bot.now c.args.command.now) = edits_region c.resolution.result c.args.bot.now c.args.command.now c.in-Some.edited c.args.full c.in-Some.ensures c.if-edited-full.false in
    (listed c.args.matrix.now c.resolution.result c.args.full (act c.args.bot.now c.args.command.now) c.in-Some.edited.region c.args.list.now.items c.list_region.new.list.items c.args.list.now.spare c.list_region.new.list.spare c.args.steps.now c.list_region.new.steps
    c.resolution.ensures.value c.in-Some.ensures.ordered c.in-Some.ensures.within region c.list_region.ensures.items c.list_region.ensures.room c.list_region.ensures.touches).items

pub returns-clause-left : goal.returns-clause-left
returns-clause-left g c =
    let region : IsRegionOf c.in-Some.edited.region c.args.full (act c.args.bot.now c.args.command.now) = edits_region c.resolution.result c.args.bot.now c.args.command.now c.in-Some.edited c.args.full c.in-Some.ensures c.if-edited-full.false in
    (listed c.args.matrix.now c.resolution.result c.args.full (act c.args.bot.now c.args.command.now) c.in-Some.edited.region c.args.list.now.items c.list_region.new.list.items c.args.list.now.spare c.list_region.new.list.spare c.args.steps.now c.list_region.new.steps
    c.resolution.ensures.value c.in-Some.ensures.ordered c.in-Some.ensures.within region c.list_region.ensures.items c.list_region.ensures.room c.list_region.ensures.touches).left

pub returns-clause-touches : goal.returns-clause-touches
returns-clause-touches g c =
    let region : IsRegionOf c.in-Some.edited.region c.args.full (act c.args.bot.now c.args.command.now) = edits_region c.resolution.result c.args.bot.now c.args.command.now c.in-Some.edited c.args.full c.in-Some.ensures c.if-edited-full.false in
    (listed c.args.matrix.now c.resolution.result c.args.full (act c.args.bot.now c.args.command.now) c.in-Some.edited.region c.args.list.now.items c.list_region.new.list.items c.args.list.now.spare c.list_region.new.list.spare c.args.steps.now c.list_region.new.steps
    c.resolution.ensures.value c.in-Some.ensures.ordered c.in-Some.ensures.within region c.list_region.ensures.items c.list_region.ensures.room c.list_region.ensures.touches).touches
