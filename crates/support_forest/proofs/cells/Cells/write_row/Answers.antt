use Rattle.std.proofs.Common.{◌≡◌, ◌%◌, ◌∙◌, Some, arith, subst, sym}
use Rattle.brick_arena.specs.Slots.{swapped}
use Rattle.vox_geom.specs.declared.coordinate.Coord.{Coord}
use Rattle.support_forest.specs.Grid.{Grid, side, slot_of, word_index}
use Rattle.support_forest.specs.Indices.{voxel_in}
use Rattle.support_forest.specs.Segments.{AreWritten}
use Rattle.support_forest.proofs.Rowwise.{can_row, wrote_row}
use Rattle.support_forest.proofs.Store.{index_there}
use Rattle.support_forest.proofs.Voxels.{part_there, slot_offset_at}
use Rattle.support_forest.proofs.cells.Cells.write_row.Goals as goal

pub set_row-requires-clause-live : goal.set_row-requires-clause-live
set_row-requires-clause-live g c = c.self.invariant.1.0.live _ c.args.slot (subst (λ (x : Grid). slot_of x (voxel_in c.args.self.now c.args.index) ≡ Some c.args.slot) (sym c.self.view_is) c.requires.slot)

pub set_row-requires-clause-row : goal.set_row-requires-clause-row
set_row-requires-clause-row g c = let part = part_there (side c.args.self.now.resolution) c.args.index 8 c.requires.row.row in omega arith

pub invariant_of-self : goal.invariant_of-self
invariant_of-self g c =
    let inside = c.self.inside in
    let old : Grid = record { resolution = inside.resolution; table = inside.table.items; bricks = inside.bricks } in
    let first : Coord = voxel_in c.args.self.now c.args.index in
    let index : swapped (c.args.index % 512) ≡ word_index first = index_there first _ (sym (slot_offset_at (side c.args.self.now.resolution) c.args.index)) in
    let row_written = wrote_row old c.set_row.new.self first c.args.slot (swapped (c.args.index % 512)) c.args.word
    (can_row old c.args.self.now first c.args.slot (swapped (c.args.index % 512)) c.args.word c.self.view_is c.self.invariant.1.0 c.requires.row c.requires.slot index c.requires.level c.requires.levels c.set_row.ensures.written)
    c.set_row.ensures.value in
    (c.self.invariant.0, (row_written.store, (c.self.invariant.1.1.0 ∙ sym row_written.floating, c.self.invariant.1.1.1 ∙ sym row_written.overhangs)))

pub returns-clause-written : goal.returns-clause-written
returns-clause-written g c =
    let inside = c.self.inside in
    let old : Grid = record { resolution = inside.resolution; table = inside.table.items; bricks = inside.bricks } in
    let new : Grid = record { resolution = inside.resolution; table = inside.table.items; bricks = c.set_row.new.self } in
    let first : Coord = voxel_in c.args.self.now c.args.index in
    let index : swapped (c.args.index % 512) ≡ word_index first = index_there first _ (sym (slot_offset_at (side c.args.self.now.resolution) c.args.index)) in
    let row_written = wrote_row old c.set_row.new.self first c.args.slot (swapped (c.args.index % 512)) c.args.word
    (can_row old c.args.self.now first c.args.slot (swapped (c.args.index % 512)) c.args.word c.self.view_is c.self.invariant.1.0 c.requires.row c.requires.slot index c.requires.level c.requires.levels c.set_row.ensures.written)
    c.set_row.ensures.value in
    subst (λ (x : Grid). AreWritten x new first c.args.word) c.self.view_is row_written.written
