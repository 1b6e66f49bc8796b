use Rattle.std.proofs.Common.{arith, refl, subst}
use Rattle.vox_geom.specs.declared.coordinate.Coord.{Coord}
use Rattle.vox_geom.proofs.Sums.{most_cube}
use Rattle.support_forest.specs.Grid.{word_at}
use Rattle.support_forest.specs.FillingOne.{AreBesideWords}
use Rattle.support_forest.proofs.FillingOne.{filled_over, under_small}
use Rattle.support_forest.proofs.fill_one.fill_above_floor.Goals as goal

pub overflow_add-beside : goal.overflow_add-beside
overflow_add-beside g c =
    let cube = most_cube c.args.cells.now.resolution c.words_beside-beside.ensures.few in
    let words = subst (λ (voxel : Coord). AreBesideWords (word_at c.args.cells.now) voxel c.words_beside-beside.result) c.index_of.ensures.voxel c.words_beside-beside.ensures.words in
    let low = under_small c.args.cells.now.resolution (word_at c.args.cells.now) c.args.c c.words_beside-beside.result.under c.requires.can.exact cube words.under (c.if-may_be_supported.ensures refl).under in
    omega arith

pub returns-then-may_be_supported : goal.returns-then-may_be_supported
returns-then-may_be_supported g c =
    let words = subst (λ (voxel : Coord). AreBesideWords (word_at c.args.cells.now) voxel c.words_beside-beside.result) c.index_of.ensures.voxel c.words_beside-beside.ensures.words in
    filled_over c.args.cells.now c.write.new.self c.args.c c.words_beside-beside.result c.args.steps.now c.words_beside-beside.new.steps c.write.new.steps
    c.requires.can.exact c.requires.can.within c.requires.can.void words (c.if-may_be_supported.ensures refl) c.write.ensures.written c.write.ensures.resolution c.words_beside-beside.ensures.touches c.write.ensures.touch
