use Rattle.std.proofs.Common.{◌≡◌, ◌∙◌, arith}
use Rattle.vox_geom.specs.Region.{span}
use Rattle.system_state.specs.Painting.{met_count, size_in}
use Rattle.system_state.proofs.Spans.{after_none, after_work, full_is, no_full, no_void, same_full, same_painted, same_size, same_void, size_is, void_is}
use Rattle.system_state.proofs.voxels.change_voxels.Goals as goal

pub returns-in-Some-clause-matrix : goal.returns-in-Some-clause-matrix
returns-in-Some-clause-matrix g c =
    let some_ensured = c.in-Some.ensures in
    c.change_region.ensures.matrix ∙ (same_painted c.args.matrix.now c.in-Some.edited.region some_ensured.named some_ensured.covers c.in-Some.edited.full ∙ after_work c.args.matrix.now c.args.bot c.args.command.now some_ensured.named c.in-Some.edited.full some_ensured.filled some_ensured.voided)

pub returns-in-Some-clause-void : goal.returns-in-Some-clause-void
returns-in-Some-clause-void g c =
    let some_ensured = c.in-Some.ensures in
    c.change_region.ensures.void ∙ (same_void c.args.matrix.now c.in-Some.edited.region some_ensured.named some_ensured.covers ∙ void_is c.args.matrix.now c.args.bot c.args.command.now some_ensured.named c.in-Some.edited.full some_ensured.filled some_ensured.voided)

pub returns-in-Some-clause-full : goal.returns-in-Some-clause-full
returns-in-Some-clause-full g c =
    let some_ensured = c.in-Some.ensures in
    c.change_region.ensures.full ∙ (same_full c.args.matrix.now c.in-Some.edited.region some_ensured.named some_ensured.covers ∙ full_is c.args.matrix.now c.args.bot c.args.command.now some_ensured.named c.in-Some.edited.full some_ensured.filled some_ensured.voided)

pub returns-in-Some-clause-touches : goal.returns-in-Some-clause-touches
returns-in-Some-clause-touches g c =
    let some_ensured = c.in-Some.ensures in
    let touches = c.change_region.ensures.touches in
    let same_size_in : size_in c.args.matrix.now (span c.in-Some.edited.region) ≡ size_in c.args.matrix.now some_ensured.named = same_size c.args.matrix.now c.in-Some.edited.region some_ensured.named some_ensured.covers in
    let size_in_is : size_in c.args.matrix.now some_ensured.named ≡ met_count c.args.matrix.now c.args.bot c.args.command.now = size_is c.args.matrix.now c.args.bot c.args.command.now some_ensured.named c.in-Some.edited.full some_ensured.filled some_ensured.voided in
    omega arith

pub returns-in-None-clause-matrix : goal.returns-in-None-clause-matrix
returns-in-None-clause-matrix g c =
    let none_ensured = c.in-None.ensures in
    after_none c.args.matrix.now c.args.bot c.args.command.now c.resolution.ensures.whole.voxels none_ensured.filled none_ensured.voided

pub returns-in-None-clause-void : goal.returns-in-None-clause-void
returns-in-None-clause-void g c = let none_ensured = c.in-None.ensures in no_void c.args.matrix.now c.args.bot c.args.command.now none_ensured.filled none_ensured.voided

pub returns-in-None-clause-full : goal.returns-in-None-clause-full
returns-in-None-clause-full g c = let none_ensured = c.in-None.ensures in no_full c.args.matrix.now c.args.bot c.args.command.now none_ensured.filled none_ensured.voided
