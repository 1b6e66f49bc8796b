use Rattle.std.proofs.Common.{◌+◌, ◌≤◌, arith, refl}
use Rattle.vox_geom.proofs.Sums.{most_cube}
use Rattle.support_forest.specs.declared.beside.Beside.{Beside}
use Rattle.support_forest.specs.Grid.{word_at}
use Rattle.support_forest.specs.FillingOne.{AreBesideWords, MayBeSupported}
use Rattle.support_forest.specs.Indices.{voxel_in}
use Rattle.support_forest.proofs.FillingOne.{filled_over, under_small}
use Rattle.support_forest.proofs.fill_one.fill_by.Goals as goal

pub chunk-chunk-requires : goal.chunk-chunk-requires
chunk-chunk-requires g c = c.recall.ensures.store.live _ c.args.slot c.requires.slot

pub overflow_add-height : goal.overflow_add-height
overflow_add-height g c =
    let cube = most_cube c.args.cells.now.resolution c.recall.ensures.few in
    let low = under_small c.args.cells.now.resolution (word_at c.args.cells.now) (voxel_in c.args.cells.now c.args.index) c.word_beside-under.result c.requires.can.exact cube c.word_beside-under.ensures.word (omega (arith, c.if-height-eq0.false)) in
    omega arith

pub returns : goal.returns
returns g c =
    let beside : Beside = record { left = c.word_beside-left.result; right = c.word_beside-right.result; under = c.word_beside-under.result; over = c.word_beside-over.result; near = c.word_beside-near.result; far = c.word_beside-far.result } in
    let words : AreBesideWords (word_at c.args.cells.now) (voxel_in c.args.cells.now c.args.index) beside = record {
      left = c.word_beside-left.ensures.word;
      right = c.word_beside-right.ensures.word;
      under = c.word_beside-under.ensures.word;
      over = c.word_beside-over.ensures.word;
      near = c.word_beside-near.ensures.word;
      far = c.word_beside-far.ensures.word;
    } in
    let stands : MayBeSupported beside = record {
      under = omega (arith, c.if-height-eq0.false);
      left = c.if-not-leaves_room.ensures refl;
      right = c.if-not-leaves_room-2.ensures refl;
      over = c.if-not-leaves_room-3.ensures refl;
      near = c.if-not-leaves_room-4.ensures refl;
      far = c.if-not-leaves_room-5.ensures refl;
    } in
    let touches : c.word_beside-far.new.steps ≤ c.args.steps.now + 6 = omega (arith, c.word_beside-under.ensures.touch, c.word_beside-left.ensures.touch, c.word_beside-right.ensures.touch, c.word_beside-over.ensures.touch, c.word_beside-near.ensures.touch, c.word_beside-far.ensures.touch) in
    record {
      filled = filled_over c.args.cells.now c.write_at.new.self (voxel_in c.args.cells.now c.args.index) beside c.args.steps.now c.word_beside-far.new.steps c.write_at.new.steps
          c.requires.can.exact c.requires.can.within c.requires.can.void words stands c.write_at.ensures.written c.write_at.ensures.resolution touches c.write_at.ensures.touch;
      held = λ _. omega (arith, c.write_at.ensures.written.here);
    }
