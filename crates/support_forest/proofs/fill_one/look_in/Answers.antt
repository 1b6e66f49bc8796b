use Rattle.support_forest.specs.Grid.{word_at}
use Rattle.support_forest.specs.Indices.{voxel_in}
use Rattle.support_forest.proofs.fill_one.look_in.Goals as goal

pub returns-clause-around : goal.returns-clause-around
returns-clause-around g c =
    let w = word_at c.args.cells.now in
    let at = voxel_in c.args.cells.now c.args.index in
    c.with_neighbor.ensures w at c.word_toward-6.ensures.word
    (c.with_neighbor-around-5.ensures w at c.word_toward-5.ensures.word
    (c.with_neighbor-around-4.ensures w at c.word_toward-4.ensures.word
    (c.with_neighbor-around-3.ensures w at c.word_toward-3.ensures.word
    (c.with_neighbor-around-2.ensures w at c.word_toward-2.ensures.word
    (c.with_neighbor-around.ensures w at c.word_toward.ensures.word
    (c.nothing_around-around.ensures w at c.requires.floor))))))
