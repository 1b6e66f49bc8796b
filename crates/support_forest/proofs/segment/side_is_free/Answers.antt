use Rattle.std.proofs.Common.{arith}
use Rattle.support_forest.specs.Access.{LieInBrick}
use Rattle.support_forest.specs.Grid.{side}
use Rattle.support_forest.specs.Indices.{voxel_in}
use Rattle.support_forest.proofs.Across.{across_below}
use Rattle.support_forest.proofs.Segments.{side_across, side_in_chunk, side_in_slot, side_none}
use Rattle.support_forest.proofs.Voxels.{part_of_row}
use Rattle.support_forest.proofs.Within.{offset_is}
use Rattle.support_forest.proofs.segment.side_is_free.Goals as goal

pub words_hang_not-requires-clause-within : goal.words_hang_not-requires-clause-within
words_hang_not-requires-clause-within g c =
    let place = c.in-Some.ensures (side c.args.cells.now.resolution) in
    side_in_chunk c.args.cells.now c.args.chunk.now c.args.own place.in_slot c.in-Some.from c.args.count g.row.D (voxel_in c.args.cells.now c.args.index) c.requires.direction.1
    (part_of_row (side c.args.cells.now.resolution) c.args.index c.args.count c.requires.row) c.requires.read.chunk place.toward
    (offset_is c.args.cells.now c.args.index c.args.own g.row.D c.args.at c.in-Some.from c.args.chunk.now c.requires.read place)

pub returns-in-Some-clause-none : goal.returns-in-Some-clause-none
returns-in-Some-clause-none g c t =
    let place = c.in-Some.ensures (side c.args.cells.now.resolution) in
    let lies : LieInBrick c.args.cells.now (voxel_in c.args.cells.now c.args.index) c.args.own = record { within = c.requires.read.within; slot = c.requires.read.slot; space = c.requires.read.space } in
    side_in_slot c.args.cells.now c.args.chunk.now c.args.own place.in_slot c.in-Some.from c.args.count g.row.D c.args.toward (voxel_in c.args.cells.now c.args.index) c.requires.direction
    c.recall.ensures.store lies (part_of_row (side c.args.cells.now.resolution) c.args.index c.args.count c.requires.row) c.requires.read.chunk place.toward
    (offset_is c.args.cells.now c.args.index c.args.own g.row.D c.args.at c.in-Some.from c.args.chunk.now c.requires.read place) (c.words_hang_not.ensures.none t)

pub row_is_free-requires-clause-number : goal.row_is_free-requires-clause-number
row_is_free-requires-clause-number g c = let below = across_below _ _ g.row.D _ c.in-Some-index_across.ensures.across in let bricks = c.recall.ensures.store.bricks in omega arith

pub row_is_free-requires-clause-row : goal.row_is_free-requires-clause-row
row_is_free-requires-clause-row g c = let line = c.in-Some-index_across.ensures.line c.requires.direction.1 in let row = c.requires.row in omega arith

pub returns-in-Some-index_across-clause-none : goal.returns-in-Some-index_across-clause-none
returns-in-Some-index_across-clause-none g c t =
    let lies : LieInBrick c.args.cells.now (voxel_in c.args.cells.now c.args.index) c.args.own = record { within = c.requires.read.within; slot = c.requires.read.slot; space = c.requires.read.space } in
    side_across c.args.cells.now _ c.args.count g.row.D c.args.toward _ c.args.own c.requires.direction lies c.in-Some-index_across.ensures.across (c.row_is_free.ensures.none t)

pub returns-in-None-clause-none : goal.returns-in-None-clause-none
returns-in-None-clause-none g c t =
    let lies : LieInBrick c.args.cells.now (voxel_in c.args.cells.now c.args.index) c.args.own = record { within = c.requires.read.within; slot = c.requires.read.slot; space = c.requires.read.space } in
    side_none c.args.cells.now _ c.args.count g.row.D c.args.toward c.args.own c.requires.direction lies c.in-None.ensures.across
