use Rattle.std.proofs.Common.{◌%◌, ◌∙◌, sym, subst, rules}
use Rattle.brick_arena.specs.Slots.{swapped}
use Rattle.vox_geom.specs.declared.coordinate.Coord.{Coord}
use Rattle.support_forest.specs.Grid.{Grid, side, word_at}
use Rattle.support_forest.specs.Indices.{voxel_in}
use Rattle.support_forest.specs.Words.{IsWritten}
use Rattle.support_forest.proofs.Store.{index_there}
use Rattle.support_forest.proofs.Voxels.{slot_offset_at}
use Rattle.support_forest.proofs.Writes.{wrote_without_overhang}
use Rattle.support_forest.proofs.cells.Cells.write_without_overhang.Goals as goal

pub invariant_of-self : goal.invariant_of-self
invariant_of-self g c =
    let inside = c.self.inside in
    let old : Grid = record { resolution = inside.resolution; table = inside.table.items; bricks = inside.bricks } in
    let voxel : Coord = voxel_in c.args.self.now c.args.index in
    let left = wrote_without_overhang old c.args.self.now c.set_word_at.new.self voxel c.args.slot (swapped (c.args.index % 512)) c.args.word c.self.view_is c.self.invariant.1.0
    c.requires.within c.requires.slot (index_there voxel _ (sym (slot_offset_at (side c.args.self.now.resolution) c.args.index)))
    c.set_word_at.ensures.value c.set_word_at.ensures.written c.requires.level c.requires.stands in
    (c.self.invariant.0, (left.store, (c.self.invariant.1.1.0 ∙ sym left.floating, c.self.invariant.1.1.1 ∙ sym left.overhangs)))

pub returns : goal.returns
returns g c =
    let inside = c.self.inside in
    let old : Grid = record { resolution = inside.resolution; table = inside.table.items; bricks = inside.bricks } in
    let new : Grid = record { resolution = inside.resolution; table = inside.table.items; bricks = c.set_word_at.new.self } in
    let voxel : Coord = voxel_in c.args.self.now c.args.index in
    let left = wrote_without_overhang old c.args.self.now c.set_word_at.new.self voxel c.args.slot (swapped (c.args.index % 512)) c.args.word c.self.view_is c.self.invariant.1.0
    c.requires.within c.requires.slot (index_there voxel _ (sym (slot_offset_at (side c.args.self.now.resolution) c.args.index)))
    c.set_word_at.ensures.value c.set_word_at.ensures.written c.requires.level c.requires.stands in
    record {
      resolution = search rules;
      slots = search rules;
      written = subst (λ (q : Grid). IsWritten (word_at q) (word_at new) voxel c.args.word) c.self.view_is left.written;
      touch = search rules;
    }
