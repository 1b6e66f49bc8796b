use Rattle.std.proofs.Common.{arith}
use Rattle.support_forest.specs.Grid.{side}
use Rattle.support_forest.proofs.Store.{slot_offset_below}
use Rattle.support_forest.proofs.Voxels.{number_below, index_small}
use Rattle.support_forest.proofs.Within.{word_within}
use Rattle.support_forest.proofs.toward.word_beyond.Goals as goal

pub offset_toward-requires-clause-fits : goal.offset_toward-requires-clause-fits
offset_toward-requires-clause-fits g c = let small = index_small c.args.cells.now.resolution c.args.index c.recall.ensures.few c.requires.inside.within in omega arith

pub overflow_cast-next : goal.overflow_cast-next
overflow_cast-next g c =
    let place = c.in-Some.ensures (side c.args.cells.now.resolution) in
    let small = index_small c.args.cells.now.resolution c.args.index c.recall.ensures.few c.requires.inside.within in
    let below = slot_offset_below place.toward.there in
    omega (arith, place.moved, place.toward.at_offset)

pub word_at_index-requires : goal.word_at_index-requires
word_at_index-requires g c =
    let place = c.in-Some.ensures (side c.args.cells.now.resolution) in
    let number = number_below c.args.cells.now.resolution c.args.index c.requires.inside.within in
    let below = slot_offset_below place.toward.there in
    let bricks = c.recall.ensures.store.bricks in
    omega (arith, place.moved, place.toward.at_offset)

pub returns-in-Some : goal.returns-in-Some
returns-in-Some g c = record {
  word = word_within c.args.cells.now c.args.index g.row.D c.in-Some.next c.word_at_index.result c.requires.inside.within (c.in-Some.ensures (side c.args.cells.now.resolution)) c.word_at_index.ensures.value;
  touch = c.word_at_index.ensures.touch;
}
