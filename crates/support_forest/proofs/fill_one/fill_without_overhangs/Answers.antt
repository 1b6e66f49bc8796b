use Rattle.std.proofs.Common.{◌+◌, ◌*◌, ◌/◌, arith}
use Rattle.vox_geom.proofs.Sums.{most_cube}
use Rattle.support_forest.specs.Grid.{word_at}
use Rattle.support_forest.specs.Indices.{voxel_in}
use Rattle.support_forest.proofs.FillingOne.{filled_fit, under_small}
use Rattle.support_forest.proofs.WithoutOverhangs.{fits_without_overhangs, held_by, lies_upright}
use Rattle.support_forest.proofs.fill_one.fill_without_overhangs.Goals as goal

pub chunk-chunk-requires : goal.chunk-chunk-requires
chunk-chunk-requires g c = c.recall.ensures.store.live _ c.args.slot c.requires.can.slot

pub overflow_add-under : goal.overflow_add-under
overflow_add-under g c =
    let cube = most_cube c.args.cells.now.resolution c.recall.ensures.few in
    let some = held_by c.args.cells.now.resolution (word_at c.args.cells.now) (voxel_in c.args.cells.now c.args.index) c.word_beside-under.result c.requires.can.can.exact c.requires.without_overhangs c.word_beside-under.ensures.word (let none = c.if-under-eq0.false in omega arith) in
    let low = under_small c.args.cells.now.resolution (word_at c.args.cells.now) (voxel_in c.args.cells.now c.args.index) c.word_beside-under.result c.requires.can.can.exact cube c.word_beside-under.ensures.word some in
    omega arith

pub write_without_overhang-requires-clause-level : goal.write_without_overhang-requires-clause-level
write_without_overhang-requires-clause-level g c = lies_upright (c.word_beside-under.result / 8)

pub write_without_overhang-requires-clause-stands : goal.write_without_overhang-requires-clause-stands
write_without_overhang-requires-clause-stands g c = c.requires.without_overhangs (voxel_in c.args.cells.now c.args.index)

pub returns : goal.returns
returns g c = record {
  filled = filled_fit c.args.cells.now c.write_without_overhang.new.self (voxel_in c.args.cells.now c.args.index) (8 * (c.word_beside-under.result / 8) + 11) c.args.steps.now c.word_beside-under.new.steps c.write_without_overhang.new.steps
      c.requires.can.can.exact c.requires.can.can.within c.requires.can.can.void
      (fits_without_overhangs c.args.cells.now.resolution (word_at c.args.cells.now) (voxel_in c.args.cells.now c.args.index) c.word_beside-under.result c.requires.can.can.exact c.requires.without_overhangs c.word_beside-under.ensures.word (let none = c.if-under-eq0.false in omega arith))
      c.write_without_overhang.ensures.written c.write_without_overhang.ensures.resolution (omega (arith, c.word_beside-under.ensures.touch)) c.write_without_overhang.ensures.touch;
  held = λ _. omega (arith, c.write_without_overhang.ensures.written.here);
}
