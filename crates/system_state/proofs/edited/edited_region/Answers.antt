use Rattle.std.proofs.Common.{subst}
use Rattle.step_groups.specs.Deeds.{IsDeed}
use Rattle.step_groups.specs.declared.deed.Deed.{Deed}
use Rattle.system_state.proofs.Regions.{is_edited_region}
use Rattle.system_state.proofs.edited.edited_region.Goals as goal

pub returns : goal.returns
returns c =
    is_edited_region c.args.r c.args.bot c.in-Edits.near c.in-Edits.far c.in-Edits.full c.in-Edits.together c.of-region.result c.of-region.ensures.corners c.of-region.ensures.ordered c.args.command.now c.recall.ensures
    (subst (λ (deed : Deed). IsDeed c.args.r c.args.bot c.args.command.now deed) c.in-Edits.is c.in-Some.ensures.some)
