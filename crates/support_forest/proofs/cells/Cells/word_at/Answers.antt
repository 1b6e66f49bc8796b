use Rattle.std.proofs.Common.{◌≡◌, sym, subst, ◌∙◌, Some}
use Rattle.vox_geom.specs.Space.{IsInSpace}
use Rattle.support_forest.specs.Grid.{Grid, side, slot_of, word_at}
use Rattle.support_forest.specs.Indices.{voxel_in}
use Rattle.support_forest.proofs.Store.{index_there}
use Rattle.support_forest.proofs.Voxels.{slot_offset_at}
use Rattle.support_forest.proofs.Writes.{reads, reads_none}
use Rattle.support_forest.proofs.cells.Cells.word_at.Goals as goal

pub returns-in-Some-clause-value : goal.returns-in-Some-clause-value
returns-in-Some-clause-value g c =
    let inside = c.self.inside in
    let old : Grid = record { resolution = inside.resolution; table = inside.table.items; bricks = inside.bricks } in
    subst (λ (q : Grid). c.word_at.result ≡ word_at q (voxel_in q c.args.index)) c.self.view_is
    (reads old (voxel_in old c.args.index) c.in-Some.slot _ c.word_at.result (subst (λ (q : Grid). IsInSpace q.resolution (voxel_in q c.args.index)) (sym c.self.view_is) c.requires.within) (subst (λ (q : Grid). Some c.in-Some.slot ≡ slot_of q (voxel_in q c.args.index)) (sym c.self.view_is) (sym c.in-Some.is ∙ c.requires.slot)) (index_there (voxel_in old c.args.index) _ (sym (slot_offset_at (side inside.resolution) c.args.index))) c.word_at.ensures.value)

pub returns-in-None-clause-value : goal.returns-in-None-clause-value
returns-in-None-clause-value g c = reads_none c.args.self.now (voxel_in c.args.self.now c.args.index) c.requires.within (sym c.in-None.is ∙ c.requires.slot)
