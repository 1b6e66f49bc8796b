use Rattle.std.proofs.Common.{arith}
use Rattle.support_forest.specs.Grid.{side}
use Rattle.support_forest.proofs.Store.{slot_offset_below}
use Rattle.support_forest.proofs.Within.{offset_is, word_in_chunk}
use Rattle.support_forest.proofs.toward.word_toward.Goals as goal

pub word-requires : goal.word-requires
word-requires g c =
    let place = c.in-Some.ensures (side c.args.cells.now.resolution) in
    let is = offset_is c.args.cells.now c.args.index c.args.slot g.row.D c.args.at c.in-Some.i c.args.chunk.now c.requires.read place in
    let below = slot_offset_below place.toward.there in
    let full = c.requires.read.chunk.full in
    omega (arith, place.toward.at_offset)

pub returns-in-Some : goal.returns-in-Some
returns-in-Some g c = record {
  word = word_in_chunk c.args.cells.now c.args.index c.args.slot g.row.D c.args.at c.in-Some.i c.word.result c.args.chunk.now c.recall.ensures.store c.requires.read (c.in-Some.ensures (side c.args.cells.now.resolution)) c.word.ensures.value;
  touch = omega (arith, c.word.ensures.touch);
}
